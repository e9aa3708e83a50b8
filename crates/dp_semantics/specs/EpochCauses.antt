-- What is kept in an epoch so that a cause can be found: for each sequential stage its memory where the next iteration starts.
use Rattle.std.specs.Prelude.{◌≡◌, ℕ, zero, suc, ◌-◌, ◌<◌, if◌then◌else◌, true, List, [], ◌∷◌, ℤ, length, map, replicate, Option, Some}
use Rattle.dp_tree.specs.declared.Program.{Program}
use Rattle.dp_tree.specs.Step.{Effect, clear_locals}
use Rattle.dp_tree.specs.Trace.{start_cells}
use Rattle.dp_plan.specs.declared.Plan.{Plan}
use Rattle.dp_plan.specs.declared.StageKind.{StageKind}
use Rattle.dp_plan.specs.declared.StageKind.TheVariants.{Seq, Par}
use Rattle.dp_plan.specs.Access.{is_replicated}
use Rattle.dp_semantics.specs.Cause.{Cause, cause_since}
use Rattle.dp_semantics.specs.CauseWalk.{Watch, shown_from, cause_walk}
use Rattle.dp_semantics.specs.FindsCauses.{turn_text}
use Rattle.dp_semantics.specs.Judge.{Judgement, Clean, Unclean}
use Rattle.dp_semantics.specs.EpochKey.{EpochKey, epoch_run}
use Rattle.dp_semantics.specs.EpochVerdicts.{state_at, judgement_of, goes_on, verdict_at}

-- where an epoch begins: a replicated stage has no memory of its own
abbrev pub own_kept : List ℤ → StageKind → List ℤ
own_kept base Seq = base
own_kept base Par = []

abbrev pub first_kept : List ℤ → List StageKind → List (List ℤ)
first_kept base [] = []
first_kept base (kind ∷ rest) = own_kept base kind ∷ first_kept base rest

module _ (p : Program) (plan : Plan) where
  -- after these effects at these sites, each of which its own stage and the later ones see
  abbrev pub kept_after : List ℕ → List Effect → List (List ℤ) → List (List ℤ)
  kept_after (site ∷ sites) (effect ∷ effects) kept = kept_after sites effects (shown_from p plan (record { site = site; loads = []; effect = effect }) 1 kept)
  kept_after _ _ kept = kept

  -- .. and where the next iteration starts
  abbrev pub next_kept : Judgement → List (List ℤ) → List (List ℤ)
  next_kept (Clean agreed) kept = map (clear_locals plan.region p.vars) (kept_after agreed.sites agreed.effects kept)
  next_kept Unclean kept = kept

module _ (plan : Plan) where
  -- the memories that the stages from s on see: a replicated stage sees what the one before it does
  abbrev pub views_from : ℕ → List ℤ → List (List ℤ) → List (List ℤ)
  views_from s before [] = []
  views_from s before (own ∷ rest) = let view = if is_replicated plan s then before else own in view ∷ views_from (suc s) view rest

  -- the watch of an iteration that starts with these
  abbrev pub watch_of : List (List ℤ) → Watch
  watch_of kept = record { views = views_from 1 [] kept; counts = replicate (length plan.stages) 0 }

-- what is kept before the epoch's n-th iteration
abbrev pub kept_at : EpochKey → ℕ → List (List ℤ)
kept_at key zero = first_kept key.base key.plan.stages
kept_at key (suc n) = next_kept key.program key.plan (judgement_of key n) (kept_at key n)

-- the cause that the walk finds in that iteration, within the steps that are left
abbrev pub found_in : EpochKey → ℕ → Option Cause
found_in key n =
    cause_walk key.program key.plan key.input (key.fuel - (state_at key n).steps) (watch_of key.plan (kept_at key n)) (turn_text key.program key.plan)
    (state_at key n).cells

-- an epoch begins with as many cells as the program has, and with the body locals at 0
pub record IsSound (key : EpochKey) : Type 0 where
  pub size : length key.base ≡ length (start_cells key.program.vars)
  pub cleared : clear_locals key.plan.region key.program.vars key.base ≡ key.base

-- In such an epoch, where the first verdict that isn't to go on is Unclean, the walk finds the cause that it is to tell.
abbrev pub FindsInEpochs : Program → Plan → Type 0
FindsInEpochs p plan = (key : EpochKey) → key.program ≡ p → key.plan ≡ plan → IsSound key → (n : ℕ) → ((m : ℕ) → m < n → goes_on (verdict_at key m) ≡ true) →
    judgement_of key n ≡ Unclean →
    found_in key n ≡ Some (cause_since key.program key.plan (epoch_run key) 0 n)
