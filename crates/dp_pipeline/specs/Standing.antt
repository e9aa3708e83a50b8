-- Where the ends of a unit stand in an epoch.
use Rattle.std.specs.Prelude.{◌≡◌, ℕ, ◌+◌, ◌-◌, Bool, false, Option, Some}
use Rattle.dp_relay.specs.UnitsKey.{UnitsKey}
use Rattle.dp_lane.specs.declared.rule.View.{View}
use Rattle.dp_lane.specs.declared.rule.View.TheVariants.{Sender, Taker}
use Rattle.dp_lane.specs.Ends.{End}
use Rattle.dp_lane.specs.Views.{sent_by}
use Rattle.dp_pipeline.specs.declared.start.Start.{Start as First}
use Rattle.dp_pipeline.specs.declared.source.Source.{Source}
use Rattle.dp_pipeline.specs.declared.source.Source.TheVariants as source
use Rattle.dp_pipeline.specs.declared.target.Target.{Target}
use Rattle.dp_pipeline.specs.declared.target.Target.TheVariants as target
use Rattle.dp_pipeline.specs.declared.passage.Passage.{Passage}
use Rattle.dp_pipeline.specs.declared.judging.Judging.{Judging}
use Rattle.dp_relay.specs.Facts.{Facts}
use Rattle.dp_pipeline.specs.Lanes.{TakesFrom, SendsTo}
use Rattle.dp_pipeline.specs.Sizes.{batch_begins}
use Rattle.dp_pipeline.specs.steps.Supplying.{Supplies}
use Rattle.dp_pipeline.specs.Seats.{CollectsFrom, PutsTo, seat_facts}

-- what starts the epoch's iterations, n batches of which were started
pub record Starts (x : First) (key : UnitsKey) (s n : ℕ) : Type 0 where
  pub first : x.first ≡ key.epoch.first
  pub next : x.next ≡ key.epoch.first + batch_begins key n
  pub fuel : x.fuel ≡ key.epoch.fuel
  pub cap : x.cap ≡ key.cap
  pub supply : Supplies x.supply key
  pub stage : s ≡ 0

-- what stage s sends in the epoch comes from here, and n items came
abbrev pub GivesBatches : Source → UnitsKey → ℕ → ℕ → Type 0
GivesBatches (source.Start x) key s n = Starts x key s n
GivesBatches (source.Lane end) key s n = TakesFrom end.view key s n
GivesBatches (source.Ring seat) key s n = CollectsFrom seat key s n

-- what stage s sends in the epoch goes here, and n items went
abbrev pub Gets : Target → UnitsKey → ℕ → ℕ → Type 0
Gets (target.Lane end) key s n = SendsTo end.view key s n
Gets (target.Ring seat) key s n = PutsTo seat key s n

module _ {K : Type 0} where
  abbrev pub taker_count : View K → ℕ
  taker_count (Taker key taken) = taken
  taker_count _ = 0

  abbrev pub sender_ended : View K → Bool
  sender_ended (Sender key sent ended) = ended
  sender_ended _ = false

  abbrev pub taken_facts : End K → Facts
  taken_facts end = record { count = taker_count end.view; tries = end.refused; word = 0; at_ring = false }

  abbrev pub sent_facts : End K → Facts
  sent_facts end = record { count = sent_by end.view; tries = end.refused; word = 0; at_ring = false }

abbrev pub source_facts : Source → Facts
source_facts (source.Start x) = record { count = x.taken; tries = x.refused; word = 0; at_ring = false }
source_facts (source.Lane end) = taken_facts end
source_facts (source.Ring seat) = seat_facts seat

abbrev pub target_facts : Target → Facts
target_facts (target.Lane end) = sent_facts end
target_facts (target.Ring seat) = seat_facts seat

-- the item that was sent last is an ending one
abbrev pub target_ended : Target → Bool
target_ended (target.Lane end) = sender_ended end.view
target_ended (target.Ring seat) = seat.view.ended

-- the ends of stage s: the next item is the n-th
pub record IsReady (ends : Passage) (key : UnitsKey) (s : ℕ) (place : Option ℕ) : Type 0 where
  pub at : ℕ
  pub place_is : place ≡ Some at
  pub from : GivesBatches ends.source key (s - 1) at
  pub to : Gets ends.target key s at

-- .. and the n-th was taken
pub record IsHolding (ends : Passage) (key : UnitsKey) (s : ℕ) (place : Option ℕ) (at : ℕ) : Type 0 where
  pub place_is : place ≡ Some at
  pub from : GivesBatches ends.source key (s - 1) (at + 1)
  pub to : Gets ends.target key s at

-- the ends of the try-commit unit: the next item is the n-th
pub record MayJudge (ends : Judging) (key : UnitsKey) (s : ℕ) (place : Option ℕ) : Type 0 where
  pub at : ℕ
  pub place_is : place ≡ Some at
  pub from : GivesBatches ends.source key (s - 1) at
  pub to : SendsTo ends.verdicts.view key s at

-- .. and the n-th was taken
pub record HasJudged (ends : Judging) (key : UnitsKey) (s : ℕ) (place : Option ℕ) (at : ℕ) : Type 0 where
  pub place_is : place ≡ Some at
  pub from : GivesBatches ends.source key (s - 1) (at + 1)
  pub to : SendsTo ends.verdicts.view key s at
