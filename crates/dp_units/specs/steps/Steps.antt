-- What the steps of a search do.
use Rattle.std.specs.Prelude.{ℕ, ◌≡◌, ◌<◌, ◌≤◌, ◌+◌, List, [], ◌∷◌, ◌++◌, ◌-◌, length, map, take, Vec}
use Rattle.std.proofs.Math.ListN.{set}
use Rattle.std.specs.declared.alloc.Global.{Global}
use Rattle.dp_units.specs.steps.Entries.{At, Has, Rises}
use Rattle.dp_units.specs.declared.mark.Mark.{Mark}
use Rattle.dp_units.specs.declared.mark.Mark.TheVariants.{Unseen, OnPath, Closed}
use Rattle.dp_units.specs.declared.search.Search.{Search}
use Rattle.dp_units.specs.steps.Search.{IsSearch, IsUnseen}

-- the edges of a row, from this place of the path
abbrev pub edges_from : ℕ → List ℕ → List (ℕ × ℕ)
edges_from place row = map (λ target. (place, target)) row

-- what is left to do: the rows of the nodes that weren't met
abbrev pub rows_left : List (Vec ℕ Global) → List Mark → ℕ
rows_left [] marks = 0
rows_left (row ∷ rows) [] = 0
rows_left (row ∷ rows) (Unseen ∷ marks) = (length row.items + 2) + rows_left rows marks
rows_left (row ∷ rows) (OnPath place ∷ marks) = rows_left rows marks
rows_left (row ∷ rows) (Closed unit ∷ marks) = rows_left rows marks

-- and the path and the edges that wait
abbrev pub work_left : List (Vec ℕ Global) → Search → ℕ
work_left rows search = (rows_left rows search.marks.items + length search.waiting.items) + length search.path.items

-- the search goes well in this graph
abbrev pub IsGoing : List (ℕ × ℕ) → List (Vec ℕ Global) → Search → Type 0
IsGoing edges rows s = IsSearch (length rows) edges s.marks.items s.path.items s.bottoms.items s.waiting.items s.leaders.items

-- the last group begins at this place
abbrev pub IsLastGroup : Search → ℕ → Type 0
IsLastGroup s bottom = s.bottoms.items ≡ take (length s.bottoms.items - 1) s.bottoms.items ++ bottom ∷ []

-- the last edge that waits leads from the last group to this node
abbrev pub LeadsOn : Search → ℕ → Type 0
LeadsOn s target = (bottom : ℕ) × IsLastGroup s bottom × (place : ℕ) × (bottom ≤ place)
    × (s.waiting.items ≡ take (length s.waiting.items - 1) s.waiting.items ++ (place, target) ∷ [])

-- no edge from the last group, which begins at this place, waits
abbrev pub IsDone : Search → ℕ → Type 0
IsDone s bottom = (place target : ℕ) → At s.waiting.items (length s.waiting.items - 1) (place, target) → place < bottom

-- this node went onto the path
pub record HasEntered (node : ℕ) (row : List ℕ) (old new : Search) : Type 0 where
  pub marks : new.marks.items ≡ set old.marks.items node (OnPath (length old.path.items))
  pub path : new.path.items ≡ old.path.items ++ node ∷ []
  pub bottoms : new.bottoms.items ≡ old.bottoms.items ++ length old.path.items ∷ []
  pub waiting : new.waiting.items ≡ old.waiting.items ++ edges_from (length old.path.items) row
  pub leaders : new.leaders.items ≡ old.leaders.items

-- of the groups are left those that begin no higher than the target of the edge, where it is on the path, and else all
pub record HasJoined (target : Mark) (old new : List ℕ) : Type 0 where
  pub rising : Rises new
  pub kept : (bottom : ℕ) → Has new bottom → Has old bottom
  pub low : (bottom place : ℕ) → Has new bottom → target ≡ OnPath place → bottom ≤ place
  pub all : (bottom : ℕ) → Has old bottom → ((place : ℕ) → target ≡ OnPath place → bottom ≤ place) → Has new bottom

-- the search still goes well, has met no fewer nodes, and has less to do
pub record HasGone (edges : List (ℕ × ℕ)) (rows : List (Vec ℕ Global)) (old new : Search) : Type 0 where
  pub going : IsGoing edges rows new
  pub met : (node : ℕ) → IsUnseen new.marks.items node → IsUnseen old.marks.items node
  pub less : work_left rows new < work_left rows old
