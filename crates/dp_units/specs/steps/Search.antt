-- The state of a search for units: a path through nodes, whose last groups may still grow together, and the edges that it has yet to look at.
use Rattle.std.specs.Prelude.{ℕ, ◌≡◌, ◌<◌, ◌≤◌, ◌⊎◌, ◌+◌, List, length}
use Rattle.dp_units.specs.declared.mark.Mark.{Mark}
use Rattle.dp_units.specs.declared.mark.Mark.TheVariants.{Unseen, OnPath, Closed}
use Rattle.dp_units.specs.steps.Entries.{At, Has, Rises}
use Rattle.dp_units.specs.Graph.{Walk, HasEdge}

-- a path through the nodes, in groups that begin at the bottoms: in each group all nodes reach each other
pub record IsPath (edges : List (ℕ × ℕ)) (path bottoms : List ℕ) : Type 0 where
  -- each node reaches those that stand behind it
  pub onward : (i j a b : ℕ) → i ≤ j → At path i a → At path j b → Walk edges a b
  -- each node reaches the one before it, but where a group begins
  pub back : (i a b : ℕ) → At path (i + 1) a → At path i b → Has bottoms (i + 1) ⊎ Walk edges a b
  pub rising : Rises bottoms
  pub low : (b : ℕ) → Has bottoms b → b < length path
  pub first : 0 < length path → Has bottoms 0

-- the node wasn't met
abbrev pub IsUnseen : List Mark → ℕ → Type 0
IsUnseen marks v = At marks v Unseen

-- an edge from this place of the path to this node needs no look: its unit is closed, or it stands no group lower
abbrev pub IsSettled : List Mark → List ℕ → ℕ → ℕ → Type 0
IsSettled marks bottoms i w = ((c : ℕ) × At marks w (Closed c)) ⊎ ((j : ℕ) × At marks w (OnPath j) × ((b : ℕ) → Has bottoms b → b ≤ i → b ≤ j))

-- what the search knows: of each node, of the path, of the edges that wait for a look, each by the place that it leads from and its target, and of the units
-- that are closed
pub record IsSearch (count : ℕ) (edges : List (ℕ × ℕ)) (marks : List Mark) (path bottoms : List ℕ) (waiting : List (ℕ × ℕ)) (leaders : List ℕ) : Type 0 where
  pub each : length marks ≡ count
  pub placed : (v i : ℕ) → At marks v (OnPath i) → At path i v
  pub marked : (i v : ℕ) → At path i v → At marks v (OnPath i)
  pub way : IsPath edges path bottoms
  pub waits : (i w : ℕ) → Has waiting (i, w) → (v : ℕ) × At path i v × HasEdge edges v w
  pub sorted : (k m i j v w : ℕ) → k < m → At waiting k (i, v) → At waiting m (j, w) → i ≤ j
  pub looked : (i v w : ℕ) → At path i v → HasEdge edges v w → IsSettled marks bottoms i w ⊎ Has waiting (i, w)
  pub closed : (c u w : ℕ) → At marks u (Closed c) → HasEdge edges u w → (d : ℕ) × At marks w (Closed d) × (d ≤ c)
  pub unit : (c u w : ℕ) → At marks u (Closed c) → At marks w (Closed c) → Walk edges u w
  pub led : (c u : ℕ) → At marks u (Closed c) → (l : ℕ) × At leaders c l × (l ≤ u)
  pub leads : (c l : ℕ) → At leaders c l → At marks l (Closed c)

-- the marks after these nodes were closed as this unit
pub record IsMarked (marks now : List Mark) (nodes : List ℕ) (unit : ℕ) : Type 0 where
  pub each : length now ≡ length marks
  pub closed : (i v : ℕ) → At nodes i v → At now v (Closed unit)
  pub kept : (v : ℕ) (m : Mark) → At marks v m → ((i : ℕ) → At nodes i v → ⊥) → At now v m
  pub others : (v : ℕ) (m : Mark) → At now v m → At marks v m ⊎ ((m ≡ Closed unit) × Has nodes v)
