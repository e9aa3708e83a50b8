-- The verdicts on an epoch's iterations: each judges what the last stage sends for one iteration, in the memory after those before it.
use Rattle.std.specs.Prelude.{ℕ, zero, suc, ◌+◌, ◌-◌, Bool, false, not, List, ℤ, length, filter_map}
use Rattle.dp_base.specs.declared.StoreOf.{StoreOf}
use Rattle.dp_base.specs.declared.Cause.{Cause as ReportedCause}
use Rattle.dp_tree.specs.Step.{clear_locals}
use Rattle.dp_tree.specs.Trace.{printed_by}
use Rattle.dp_semantics.specs.Cause.{cause_since}
use Rattle.dp_semantics.specs.Packets.{passed}
use Rattle.dp_semantics.specs.Judge.{Agreed, Judgement, Clean, Unclean, judge}
use Rattle.dp_semantics.specs.Verdict.{applied}
use Rattle.dp_semantics.specs.Told.{store_made}
use Rattle.dp_semantics.specs.Reported.{reported}
use Rattle.dp_semantics.specs.EpochKey.{EpochKey, epoch_of, epoch_run}

-- where the judging stands before an iteration: the memory, and the number of steps made
pub record JudgeState : Type 0 where
  pub cells : List ℤ
  pub steps : ℕ

-- the judgement on what the last stage sends for the epoch's n-th iteration, from here
abbrev pub judgement_in : EpochKey → ℕ → JudgeState → Judgement
judgement_in key n s = judge key.program key.plan (key.fuel - s.steps) s.cells (passed (epoch_of key) (length key.plan.stages) n).packet

-- where the judging stands after it
abbrev pub after_judgement : EpochKey → JudgeState → Judgement → JudgeState
after_judgement key s (Clean agreed) =
    record { cells = clear_locals key.plan.region key.program.vars (applied agreed.effects s.cells); steps = s.steps + length agreed.effects }
after_judgement key s Unclean = s

-- .. before the epoch's n-th iteration
abbrev pub state_at : EpochKey → ℕ → JudgeState
state_at key zero = record { cells = key.base; steps = key.steps }
state_at key (suc n) = after_judgement key (state_at key n) (judgement_in key n (state_at key n))

-- .. and the judgement on that iteration
abbrev pub judgement_of : EpochKey → ℕ → Judgement
judgement_of key n = judgement_in key n (state_at key n)

-- what is carried of a clean iteration: the stores and the prints in the source's order, the number of steps, and whether it is the closing one
pub record Carried : Type 0 where
  pub stores : List StoreOf
  pub prints : List ℤ
  pub steps : ℕ
  pub closing : Bool

-- what is carried of what may be committed: each effect is one step
abbrev pub carried : Agreed → Carried
carried agreed = record {
  stores = filter_map store_made agreed.effects;
  prints = filter_map printed_by agreed.effects;
  steps = length agreed.effects;
  closing = agreed.closing;
}

-- what is decided of an iteration: it is committed with what is carried of it, or executed again for a cause
pub data Verdict : Type 0 where
  Commit : Carried → Verdict
  Again : ReportedCause → Verdict

-- the verdict by the judgement: an iteration that isn't clean has its own cause, and one that isn't begun the spent fuel
abbrev pub verdict_by : EpochKey → ℕ → Judgement → Verdict
verdict_by key n (Clean agreed) = Commit (carried agreed)
verdict_by key n Unclean = Again (reported (cause_since key.program key.plan (epoch_run key) 0 n))

-- the verdict on the epoch's n-th iteration
abbrev pub verdict_at : EpochKey → ℕ → Verdict
verdict_at key n = verdict_by key n (judgement_of key n)

-- the epoch goes on behind this verdict
abbrev pub goes_on : Verdict → Bool
goes_on (Commit v) = not v.closing
goes_on (Again cause) = false
