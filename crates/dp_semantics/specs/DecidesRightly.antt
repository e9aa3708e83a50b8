-- The law of an epoch's verdicts.
use Rattle.std.specs.Prelude.{◌≡◌, ℕ, ◌<◌, true, false}
use Rattle.dp_tree.specs.declared.Program.{Program}
use Rattle.dp_plan.specs.declared.Plan.{Plan}
use Rattle.dp_semantics.specs.Clean.{is_clean}
use Rattle.dp_semantics.specs.Cause.{cause_since}
use Rattle.dp_semantics.specs.Reported.{reported}
use Rattle.dp_semantics.specs.Verdict.{done_in}
use Rattle.dp_semantics.specs.EpochKey.{EpochKey, epoch_run}
use Rattle.dp_semantics.specs.EpochVerdicts.{Carried, carried, Commit, Again, goes_on, verdict_at}
use Rattle.dp_semantics.specs.EpochCauses.{IsSound}

-- The n-th verdict is to commit exactly where the n-th iteration of the epoch's own run is clean, and carries what the source does there. Otherwise it tells
-- the iteration's cause.
pub record DecidesAt (key : EpochKey) (n : ℕ) : Type 0 where
  pub commits : is_clean key.program key.plan (epoch_run key) 0 n ≡ true → verdict_at key n ≡ Commit (carried (done_in key.plan (epoch_run key) n))
  pub again : is_clean key.program key.plan (epoch_run key) 0 n ≡ false →
      verdict_at key n ≡ Again (reported (cause_since key.program key.plan (epoch_run key) 0 n))
  pub back : (v : Carried) → verdict_at key n ≡ Commit v → is_clean key.program key.plan (epoch_run key) 0 n ≡ true

-- So it is in each sound epoch, behind verdicts that go on.
abbrev pub DecidesRightly : Program → Plan → Type 0
DecidesRightly p plan =
    (key : EpochKey) → key.program ≡ p → key.plan ≡ plan → IsSound key → (n : ℕ) → ((m : ℕ) → m < n → goes_on (verdict_at key m) ≡ true) → DecidesAt key n
