-- What the definitions should mean, in laws of their own.
use Rattle.std.specs.Prelude.{◌≡◌, ℕ, ◌*◌, ◌<◌, Bool, ◌&&◌, true, false, List, [], Some, is_none, ℤ, length, nat_le, AllPairs, Contains}
use Rattle.dp_base.specs.declared.limits.TheConstants.{MOST_WORDS}
use Rattle.dp_tree.specs.declared.Program.{Program}
use Rattle.dp_plan.specs.declared.Plan.{Plan}
use Rattle.dp_tree.specs.Step.{Config}
use Rattle.dp_tree.specs.Trace.{Run, run_of}
use Rattle.dp_tree.specs.InMain.{StandsInMain}
use Rattle.dp_tree.specs.Iteration.{start, iteration, has_ended, memory_after, begun_count}
use Rattle.dp_semantics.specs.Cause.{first_cause}
use Rattle.dp_semantics.specs.Clean.{events_since, is_clean}
use Rattle.dp_semantics.specs.Recovery.{is_recovered_with, recovered_with}
use Rattle.dp_semantics.specs.OneStage.{one_stage_plan}

-- With the one-stage plan an iteration of a run that begins within `main` is clean, in whatever epoch, exactly where it has ended and has at most as many
-- events as a plan may allow words.
abbrev pub CleanInOneStage : Program → ℕ → Type 0
CleanInOneStage p r = (input : List ℤ) (fuel : ℕ) (c : Config) → StandsInMain p c → (e i : ℕ) →
    is_clean p (one_stage_plan p r) (run_of p input fuel c) e i ≡ (has_ended (run_of p input fuel c) r i && nat_le
    (length (iteration (run_of p input fuel c) r i)) MOST_WORDS)

-- The iterations that are executed again stand in ascending order, and they are the begun ones that aren't clean in their epochs.
pub record Recovers (begins : ℕ → Bool) (p : Program) (plan : Plan) (run : Run) : Type 0 where
  pub ascends : AllPairs (λ i j. i < j) (recovered_with begins p plan run)
  pub only : (i : ℕ) → Contains (recovered_with begins p plan run) i → (i < begun_count run plan.region) × (is_recovered_with begins p plan run i ≡ true)
  pub each : (i : ℕ) → i < begun_count run plan.region → is_recovered_with begins p plan run i ≡ true → Contains (recovered_with begins p plan run) i

-- So it is in any run, whichever iterations begin an epoch in any case.
abbrev pub RecoversInOrder : Program → Plan → Type 0
RecoversInOrder p plan = (begins : ℕ → Bool) (run : Run) → Recovers begins p plan run

-- In a run that begins within `main`, and in whatever epoch, an iteration that starts is clean exactly where it has ended and no event of it fails. So an
-- iteration that isn't clean has a cause.
abbrev pub CleanWithoutCause : Program → Plan → Type 0
CleanWithoutCause p plan = (input : List ℤ) (fuel : ℕ) (c : Config) → StandsInMain p c → (e i k : ℕ) → start (run_of p input fuel c) plan.region i ≡ Some k →
    is_clean p plan (run_of p input fuel c) e i
    ≡ (has_ended (run_of p input fuel c) plan.region i && is_none (first_cause p plan (memory_after (run_of p input fuel c) plan.region e) i
    (events_since (run_of p input fuel c) plan.region e i) [] (iteration (run_of p input fuel c) plan.region i)))

-- In a run that begins within `main`, and in whatever epoch, an iteration with more events than all stages together may have words isn't clean.
abbrev pub LongIsUnclean : Program → Plan → Type 0
LongIsUnclean p plan = (input : List ℤ) (fuel : ℕ) (c : Config) → StandsInMain p c → (e i : ℕ) →
    length plan.stages * plan.words < length (iteration (run_of p input fuel c) plan.region i) →
    is_clean p plan (run_of p input fuel c) e i ≡ false
