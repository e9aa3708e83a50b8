-- What is kept beside the memories, so that a new epoch costs what was stored since the last one began.
use Rattle.std.specs.Prelude.{◌≡◌, ℕ, suc, ◌<◌, true, false, List, [], ℤ, pos, length, get_or}
use Rattle.dp_tree.specs.declared.Program.{Program}
use Rattle.dp_plan.specs.declared.Plan.{Plan}
use Rattle.dp_plan.specs.Access.{is_replicated}
use Rattle.dp_plan.specs.CheckedTable.{IsTabled}
use Rattle.dp_plan.specs.Written.{has}
use Rattle.dp_semantics.specs.Fits.{fits_plan}
use Rattle.dp_semantics.specs.Seen.{is_local_at}
use Rattle.dp_view.specs.Marked.{Marked}
use Rattle.dp_view.specs.Memories.{local_numbers}

-- both memories read the same in all cells but the body locals' and those that are marked
abbrev pub SameElsewhere : Program → Plan → List ℕ → List ℤ → List ℤ → Type 0
SameElsewhere p plan marks one other = (c : ℕ) → is_local_at p plan c ≡ false → has c marks ≡ false → get_or one c (pos 0) ≡ get_or other c (pos 0)

-- Each stage has a memory and a count. Where nothing was stored since the epoch began, each memory reads as the source's; where nothing was stored
-- in this iteration, a replicated stage's reads as that of the stage before it, and the source's as where the iteration began.
pub record IsKept (p : Program) (plan : Plan) (views : List (List ℤ)) (counts : List ℕ) (source before : List ℤ) (locals : List ℕ)
    (stored since : Marked) : Type 0 where
  pub fits : fits_plan p plan ≡ true
  pub tabled : IsTabled p plan
  pub locals_are : locals ≡ local_numbers plan.region p.vars
  pub views_are : length views ≡ length plan.stages
  pub counts_are : length counts ≡ length plan.stages
  pub sizes : (j : ℕ) → j < length views → length (get_or views j []) ≡ length source
  pub before_size : length before ≡ length source
  pub stored_size : stored.size ≡ length source
  pub since_size : since.size ≡ length source
  pub lately : (j : ℕ) → j < length views → SameElsewhere p plan since.cells (get_or views j []) source
  pub shared : (j : ℕ) → suc j < length views → is_replicated plan (suc (suc j)) ≡ true → SameElsewhere p plan stored.cells (get_or views j [])
      (get_or views (suc j) [])
  pub past : SameElsewhere p plan stored.cells before source
