-- Where the ends of lanes stand in an epoch.
use Rattle.std.specs.Prelude.{◌≡◌, ℕ, Bool}
use Rattle.dp_relay.specs.UnitsKey.{UnitsKey}
use Rattle.dp_lane.specs.declared.rule.View.{View}
use Rattle.dp_lane.specs.declared.rule.View.TheVariants.{Sender, Taker}
use Rattle.dp_pipeline.specs.declared.keys.LaneKey.{LaneKey}
use Rattle.dp_pipeline.specs.Keys.{key_of}

-- a lane of what stage s sends in the epoch, from which n items were taken
pub record TakesFrom (view : View LaneKey) (key : UnitsKey) (s n : ℕ) : Type 0 where
  pub lane : LaneKey
  pub view_is : view ≡ Taker lane n
  pub epoch : key_of lane.epoch ≡ key
  pub stage : lane.stage ≡ s

-- .. on which n items were sent
pub record SendsTo (view : View LaneKey) (key : UnitsKey) (s n : ℕ) : Type 0 where
  pub lane : LaneKey
  pub ended : Bool
  pub view_is : view ≡ Sender lane n ended
  pub epoch : key_of lane.epoch ≡ key
  pub stage : lane.stage ≡ s

-- batches of the epoch come back out of this lane, and are sent back on that one
abbrev pub ComesBack : View LaneKey → UnitsKey → Type 0
ComesBack view key = (s n : ℕ) × TakesFrom view key s n

abbrev pub GoesBack : View LaneKey → UnitsKey → Type 0
GoesBack view key = (s n : ℕ) × SendsTo view key s n
