-- What comes to a unit is the next batch of its epoch.
use Rattle.std.proofs.Common.{ℕ, sym, subst}
use Rattle.dp_relay.specs.UnitsKey.{UnitsKey}
use Rattle.dp_lane.specs.declared.rule.View.{View}
use Rattle.dp_lane.specs.Views as views
use Rattle.dp_pipeline.specs.declared.keys.LaneKey.{LaneKey}
use Rattle.dp_pipeline.specs.declared.carried.Carried.{Carried}
use Rattle.dp_pipeline.specs.Carried.{IsCarried}
use Rattle.dp_pipeline.specs.Keys.{key_of}
use Rattle.dp_pipeline.specs.Lanes.{SendsTo}

-- a batch may be sent on a lane
pub may_send : (view : View LaneKey) (x : Carried) (key : UnitsKey) (s n : ℕ) → SendsTo view key s n → IsCarried key s n x
    → views.IsNextSent (λ (key : LaneKey) (k : ℕ) (y : Carried). IsCarried (key_of key.epoch) key.stage k y) view x
may_send view x key s n at is =
    subst (λ (v : View LaneKey). views.IsNextSent (λ (key : LaneKey) (k : ℕ) (y : Carried). IsCarried (key_of key.epoch) key.stage k y) v x) (sym at.view_is)
    (subst (λ (t : ℕ). IsCarried (key_of at.lane.epoch) t n x) (sym at.stage) (subst (λ (e : UnitsKey). IsCarried e s n x) (sym at.epoch) is))
