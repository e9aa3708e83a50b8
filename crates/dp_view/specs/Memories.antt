-- What is copied and cleared of memories that are kept alike.
use Rattle.std.specs.Prelude.{◌≡◌, ℕ, zero, suc, ◌+◌, ◌<◌, if◌then◌else◌, Bool, true, false, List, [], ◌∷◌, length, ℤ, pos, nat_le, slice_set, get_or}
use Rattle.dp_tree.specs.declared.VarInfo.{VarInfo}
use Rattle.dp_tree.specs.Step.{Effect, is_local_of, stored}
use Rattle.dp_plan.specs.declared.Plan.{Plan}
use Rattle.dp_plan.specs.Access.{is_replicated}
use Rattle.dp_plan.specs.Written.{has}

-- these cells read as in the other memory
abbrev pub copied : List ℤ → List ℕ → List ℤ → List ℤ
copied from [] to = to
copied from (cell ∷ rest) to = copied from rest (slice_set to cell (get_or from cell (pos 0)))

-- .. and these, too
abbrev pub refreshed : List ℤ → List ℕ → List ℕ → List ℤ → List ℤ
refreshed from locals others to = copied from others (copied from locals to)

-- these cells read 0
abbrev pub cleared_cells : List ℕ → List ℤ → List ℤ
cleared_cells [] cells = cells
cleared_cells (cell ∷ rest) cells = cleared_cells rest (slice_set cells cell (pos 0))

-- one cell more, where it is a body local's
abbrev pub with_local_number : Bool → ℕ → List ℕ → List ℕ
with_local_number true cell rest = cell ∷ rest
with_local_number false cell rest = rest

-- the cells of region r's body locals
abbrev pub local_numbers : ℕ → List VarInfo → List ℕ
local_numbers r [] = []
local_numbers r (x ∷ xs) = with_local_number (is_local_of r x.scope) x.first.0 (local_numbers r xs)

-- an effect at a site of this stage, seen by the stages from s on that aren't before it
abbrev pub shown_to_stages : ℕ → Effect → ℕ → List (List ℤ) → List (List ℤ)
shown_to_stages stage effect s [] = []
shown_to_stages stage effect s (view ∷ rest) = (if nat_le stage s then stored effect view else view) ∷ shown_to_stages stage effect (suc s) rest

-- so many words more of a stage
abbrev pub count_more : ℕ → ℕ → List ℕ → List ℕ
count_more zero more counts = counts
count_more (suc s) more counts = slice_set counts s (more + get_or counts s 0)

-- the stage at this place, from 0, is replicated
abbrev pub is_replicated_at : Plan → ℕ → Bool
is_replicated_at plan place = is_replicated plan (suc place)

-- Both memories have the same cells, and read the same in all but these.
pub record SameBut (cells : List ℕ) (one other : List ℤ) : Type 0 where
  pub size : length one ≡ length other
  pub reads : (c : ℕ) → has c cells ≡ false → get_or one c (pos 0) ≡ get_or other c (pos 0)

-- No two neighbours of the stages are replicated, and the memory of a replicated one reads as that of the stage before it in all but these cells.
pub record Neighbours (plan : Plan) (cells : List ℕ) (views : List (List ℤ)) : Type 0 where
  pub first : is_replicated plan 1 ≡ false
  pub apart : (s : ℕ) → is_replicated plan (suc s) ≡ true → is_replicated plan s ≡ false
  pub alike : (j : ℕ) → suc j < length views → is_replicated plan (suc (suc j)) ≡ true → SameBut cells (get_or views j []) (get_or views (suc j) [])
