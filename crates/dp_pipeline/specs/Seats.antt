-- Where the seats at a ring stand in an epoch.
use Rattle.std.specs.Prelude.{◌≡◌, ◌≤◌, ◌<◌, ◌^◌, ℕ, ◌+◌, ◌-◌, Bool, true, false, Option, Some, None}
use Rattle.dp_relay.specs.UnitsKey.{UnitsKey}
use Rattle.dp_ring.specs.declared.view.Standing.{Standing}
use Rattle.dp_ring.specs.declared.view.View.{View}
use Rattle.dp_ring.specs.declared.view.Phase.TheVariants.{Resting, Taking, Giving}
use Rattle.dp_ring.specs.Calls.{at_start}
use Rattle.dp_pipeline.specs.declared.keys.LaneKey.{LaneKey}
use Rattle.dp_pipeline.specs.declared.tickets.Tickets.{Tickets}
use Rattle.dp_relay.specs.Facts.{Facts}
use Rattle.dp_pipeline.specs.Keys.{key_of}

-- the seat is at a ring around stage s of the epoch
pub record SitsAt (seat : Standing LaneKey) (key : UnitsKey) (s : ℕ) : Type 0 where
  pub ring : LaneKey
  pub key_is : seat.view.key ≡ Some ring
  pub epoch : key_of ring.epoch ≡ key
  pub stage : ring.stage ≡ s

-- n of the items that stage s sends were taken out of its ring
abbrev pub CollectsFrom : Standing LaneKey → UnitsKey → ℕ → ℕ → Type 0
CollectsFrom seat key s n = SitsAt seat key s × (seat.view.at ≡ n)

-- n of them were put into the ring of the stage behind it
abbrev pub PutsTo : Standing LaneKey → UnitsKey → ℕ → ℕ → Type 0
PutsTo seat key s n = SitsAt seat key (s + 1) × (seat.view.at ≡ n) × (key.epoch.fuel < 2 ^ 62)

-- a worker's seat at a new ring of the key
abbrev pub IsUnused : LaneKey → Standing LaneKey → Type 0
IsUnused lane seat = seat ≡ at_start seat.ring seat.size Resting (2 ^ 32) (Some lane)

-- it is about to draw a ticket, or has one whose item it hasn't taken. So many tickets were drawn at most
abbrev pub IsFreeBy : Bool → View LaneKey → ℕ → Type 0
IsFreeBy false view fuel = (view.phase ≡ Resting) × (view.drawn ≤ fuel + 1)
IsFreeBy true view fuel = (view.phase ≡ Taking) × (view.drawn ≤ view.at + 1)

-- a worker of stage s may take the item of any ticket
pub record MayTake (ends : Tickets) (key : UnitsKey) (s : ℕ) (place : Option ℕ) : Type 0 where
  pub place_is : place ≡ None
  pub sits : SitsAt ends.seat key s
  pub free : IsFreeBy ends.has_ticket ends.seat.view key.epoch.fuel
  pub fuel : key.epoch.fuel < 2 ^ 32 - 1

-- .. and has taken that of the ticket n
pub record HasTaken (ends : Tickets) (key : UnitsKey) (s : ℕ) (place : Option ℕ) (n : ℕ) : Type 0 where
  pub place_is : place ≡ None
  pub sits : SitsAt ends.seat key s
  pub phase : ends.seat.view.phase ≡ Giving
  pub ticket : ends.seat.view.at ≡ n
  pub drawn : ends.seat.view.drawn ≤ n + 1
  pub within : n ≤ key.epoch.fuel
  pub fuel : key.epoch.fuel < 2 ^ 32 - 1

-- what is known of a seat that puts or collects, and of a worker's at either side
abbrev pub seat_facts : Standing LaneKey → Facts
seat_facts seat = record { count = seat.view.at; tries = seat.view.loads; word = seat.view.value; at_ring = true }

abbrev pub taking_facts : Standing LaneKey → Facts
taking_facts seat = record { count = seat.view.taken; tries = seat.view.loads; word = seat.view.value; at_ring = true }

abbrev pub giving_facts : Standing LaneKey → Facts
giving_facts seat = record { count = seat.view.given; tries = seat.view.loads; word = seat.view.value; at_ring = true }
