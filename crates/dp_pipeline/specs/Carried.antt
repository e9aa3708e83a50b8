-- What a batch, and what is decided of it, is in its epoch.
use Rattle.std.specs.Prelude.{◌≡◌, ◌≤◌, ◌<◌, ◌^◌, ℕ, ◌+◌, ◌-◌, Bool, true, false, not, ◌&&◌, List, length, nat_le}
use Rattle.std.specs.List.{list_all}
use Rattle.dp_lean_region.specs.LeanEpoch.{LeanEpoch}
use Rattle.dp_lean_region.specs.Region.{lean_epoch}
use Rattle.dp_lean_region.specs.Line.{IsLineOf}
use Rattle.dp_lean_machine.specs.declared.batch.BatchStatus.{BatchStatus}
use Rattle.dp_lean_machine.specs.declared.batch.BatchStatus.TheVariants.{Going, Closing, Void, NoMemory}
use Rattle.dp_lean_machine.specs.Sent.{IsSent}
use Rattle.dp_semantics.specs.EpochVerdicts.{verdict_at}
use Rattle.dp_judge.specs.declared.verdict.Verdict.{Verdict}
use Rattle.dp_judge.specs.Told.{SaysDecided, goes_on_behind}
use Rattle.dp_judge.specs.Decided.{left_to_give}
use Rattle.dp_pipeline.specs.declared.carried.Carried.{Carried}
use Rattle.dp_pipeline.specs.declared.judged.Judged.{Judged}
use Rattle.dp_pipeline.specs.Sizes.{batch_begins, size, EachFrom}
use Rattle.dp_relay.specs.UnitsKey.{UnitsKey}

-- the epoch as that of a pipeline of columns
abbrev pub lean_of : UnitsKey → LeanEpoch
lean_of key = lean_epoch key.epoch key.cap

-- It is what stage s sends of the epoch's b-th batch, whose first iteration isn't above the fuel's number.
pub record IsCarried (key : UnitsKey) (s b : ℕ) (x : Carried) : Type 0 where
  pub sent : IsSent (lean_of key) s b x.batch
  pub within : x.batch.first ≤ key.epoch.fuel

-- the epoch goes on behind a batch that stands so, as far as the stages know
abbrev pub is_going_on : BatchStatus → Bool
is_going_on Going = true
is_going_on Closing = false
is_going_on Void = false
is_going_on NoMemory = false

-- .. and its iterations don't reach the fuel's number
abbrev pub is_last_carried : UnitsKey → Carried → Bool
is_last_carried key x = not (is_going_on x.batch.status && nat_le x.batch.iterations (key.epoch.fuel - x.batch.first))

-- the epoch goes on behind all that is decided
abbrev pub all_onward : List Verdict → Bool
all_onward vs = list_all goes_on_behind vs

-- no verdict follows those of this batch
abbrev pub is_over : Judged → Bool
is_over x = not (is_going_on x.batch.status && all_onward (left_to_give x.told))

abbrev pub is_last_judged : UnitsKey → Judged → Bool
is_last_judged key x = is_over x

-- it is the verdict on the epoch's k-th iteration, unless memory was wanting
abbrev pub IsTold : UnitsKey → ℕ → Verdict → Type 0
IsTold key k v = SaysDecided key.epoch v (verdict_at key.epoch k)

-- These are the verdicts on the epoch's b-th batch, and none of them is wanting where others follow.
pub record IsJudged (key : UnitsKey) (b : ℕ) (x : Judged) : Type 0 where
  pub line : IsLineOf (lean_of key) x.batch.line
  pub told : EachFrom (IsTold key) (batch_begins key b) (left_to_give x.told)
  pub whole : is_over x ≡ false → length (left_to_give x.told) ≡ size key b
  pub few : batch_begins key b + length (left_to_give x.told) < 2 ^ 62
