-- The verdicts of a batch that came, as they are given.
use Rattle.std.specs.Prelude.{◌≡◌, ◌<◌, ◌^◌, ℕ, ◌+◌, Bool, true, false, List, [], ◌∷◌, length}
use Rattle.dp_judge.specs.declared.verdict.Verdict.{Verdict}
use Rattle.dp_lane.specs.declared.rule.View.{View}
use Rattle.dp_lane.specs.declared.rule.View.TheVariants.{Taker}
use Rattle.dp_judge.specs.Decided.{last_given, left_to_give}
use Rattle.dp_relay.specs.UnitsKey.{UnitsKey}
use Rattle.dp_pipeline.specs.Carried.{IsTold}
use Rattle.dp_pipeline.specs.Keys.{key_of}
use Rattle.dp_pipeline.specs.Lanes.{GoesBack}
use Rattle.dp_pipeline.specs.Sizes.{batch_begins, EachFrom}
use Rattle.dp_pipeline.specs.declared.keys.LaneKey.{LaneKey}
use Rattle.dp_pipeline.specs.declared.told.Told.{Told}

-- the verdicts that aren't given yet, in order
abbrev pub left_of : Told → List Verdict
left_of t = left_to_give t.batch

-- the verdict that was given last
abbrev pub last_told : Told → Verdict
last_told t = last_given t.batch

-- so many batches came, and these are the verdicts on the last of them that aren't given yet
pub record Awaits (key : UnitsKey) (taken : ℕ) (t : Told) : Type 0 where
  pub left : EachFrom (IsTold key) t.given (left_of t)
  pub next : t.over ≡ false → t.given + length (left_of t) ≡ batch_begins key taken
  pub few : t.given + length (left_of t) < 2 ^ 63

-- the next is given, and what was behind it is left
pub record GivesOne (old new : Told) : Type 0 where
  pub left : left_of old ≡ last_told new ∷ left_of new
  pub given : new.given ≡ old.given + 1
  pub over : new.over ≡ old.over

-- .. or none is left
abbrev pub GivesNextTold : Bool → Told → Told → Type 0
GivesNextTold true old new = GivesOne old new
GivesNextTold false old new = (left_of old ≡ []) × (left_of new ≡ []) × (new.given ≡ old.given) × (new.over ≡ old.over)

-- the batches that come out of one lane go back on another
abbrev pub BackOf : View LaneKey → View LaneKey → Type 0
BackOf (Taker lane taken) back = GoesBack back (key_of lane.epoch)
BackOf _ back = Unit {0}

-- the verdicts come out of this lane, and their batches go back on that one
abbrev pub AwaitsOn : View LaneKey → View LaneKey → Told → Type 0
AwaitsOn (Taker lane taken) back t = Awaits (key_of lane.epoch) taken t × GoesBack back (key_of lane.epoch)
AwaitsOn _ back t = (left_of t ≡ []) × (t.given < 2 ^ 63)
