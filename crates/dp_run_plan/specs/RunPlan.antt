-- A run of a region under another plan than the one by which it is answered, where neither hides anything from its stages.
use Rattle.std.specs.Prelude.{ℕ, ◌≡◌, ◌≤◌, Bool, true, false, not, [], ◌∷◌, map, length}
use Rattle.std.specs.List.{list_any}
use Rattle.dp_tree.specs.declared.Program.{Program}
use Rattle.dp_tree.specs.Trace.{Run}
use Rattle.dp_tree.specs.Iteration.{iteration, is_closing}
use Rattle.dp_plan.specs.declared.Plan.{Plan}
use Rattle.dp_plan.specs.declared.StageKind.TheVariants.{Seq}
use Rattle.dp_plan.specs.Access.{Access, region_accesses}
use Rattle.dp_plan.specs.Checked.{is_checked}
use Rattle.dp_semantics.specs.Clean.{is_clean}

-- no site of the region is checked: each stage sees what the source has
abbrev pub hides_nothing : Program → Plan → Bool
hides_nothing p plan = not (list_any (λ (a : Access). is_checked p plan a.site) (region_accesses p plan))

-- the other plan is one of the same region with the same assumptions, and neither hides anything
pub record RunsFor (p : Program) (plan other : Plan) : Type 0 where
  pub region : other.region ≡ plan.region
  pub assume : other.assume ≡ plan.assume
  pub hides : hides_nothing p plan ≡ true
  pub other_hides : hides_nothing p other ≡ true

-- all sites of the plan's region in one sequential stage, with the same words and assumptions
abbrev pub one_stage : Plan → Plan
one_stage plan = record plan { stages = Seq ∷ []; stage_of = map (λ _. 1) plan.stage_of; checked_at = map (λ _. false) plan.checked_at }

-- An iteration that is clean under the other plan, that doesn't close the region and has no more steps than a stage of the plan may have words, is clean under
-- the plan.
abbrev pub CleanAlike : Program → Plan → Plan → Type 0
CleanAlike p plan other =
    (run : Run) (e f i : ℕ) → is_clean p other run f i ≡ true → is_closing run plan.region i ≡ false → length (iteration run plan.region i) ≤ plan.words →
    is_clean p plan run e i ≡ true

-- It makes no difference to an iteration where its epoch began.
abbrev pub CleanAnywhere : Program → Plan → Type 0
CleanAnywhere p plan = (run : Run) (e f i : ℕ) → is_clean p plan run e i ≡ is_clean p plan run f i
