-- A worker draws tickets, and takes and gives the batch of each.
use Rattle.std.proofs.Common.{arith, ◌≡◌, ◌≤◌, ℕ, ◌+◌, ◌-◌, Bool, true, false, Option, IfSome, sym, ap, ◌∙◌, subst, refl}
use Rattle.dp_relay.specs.UnitsKey.{UnitsKey}
use Rattle.dp_ring.specs.declared.view.Standing.{Standing}
use Rattle.dp_ring.specs.declared.view.View.{View}
use Rattle.dp_ring.specs.declared.view.Phase.TheVariants.{Taking, Giving}
use Rattle.dp_ring.specs.Views.{after_take}
use Rattle.dp_ring.specs.Calls.{served, IsBusy}
use Rattle.dp_pipeline.specs.declared.keys.LaneKey.{LaneKey}
use Rattle.dp_pipeline.specs.declared.carried.Carried.{Carried}
use Rattle.dp_pipeline.specs.declared.tickets.Tickets.{Tickets}
use Rattle.dp_pipeline.specs.Carried.{IsCarried}
use Rattle.dp_pipeline.specs.Keys.{key_of}
use Rattle.dp_relay.specs.Places.{At}
use Rattle.dp_pipeline.specs.Seats.{IsFreeBy, MayTake, HasTaken}
use Rattle.dp_pipeline.proofs.Seated.{known, known_back, sits_on, to_epoch, to_ring}
use Rattle.dp_pipeline.proofs.Growth.{within_fuel}

pub with_ticket : (has : Bool) (view : View LaneKey) (fuel : ℕ) → has ≡ true → IsFreeBy has view fuel → (view.phase ≡ Taking) × (view.drawn ≤ view.at + 1)
with_ticket has view fuel is free = subst (λ (b : Bool). IsFreeBy b view fuel) is free

-- a worker with a ticket has taken its batch
pub has_taken : (old : Tickets) (new : Standing LaneKey) (x : Carried) → old.has_ticket ≡ true
    → IfSome old.seat.view.key (λ (k : LaneKey). IsCarried (key_of k.epoch) (k.stage - 1) old.seat.view.at x) → new.view ≡ after_take (served old.seat)
    → (key : UnitsKey) (s : ℕ) (place : Option ℕ) → MayTake old key s place
    → (n : ℕ) × At place n × IsCarried key (s - 1) n x × HasTaken (record { seat = new; has_ticket = old.has_ticket }) key s place n
has_taken old new x has put is key s place may =
    let free = with_ticket old.has_ticket old.seat.view key.epoch.fuel has may.free in
    let came : IsCarried key (s - 1) old.seat.view.at x =
    to_epoch old.seat key s (may.sits.ring.stage - 1) (s - 1) old.seat.view.at may.sits x (ap (λ (k : ℕ). k - 1) may.sits.stage) refl
    (known (λ (k : LaneKey). IsCarried (key_of k.epoch) (k.stage - 1) old.seat.view.at x) old.seat key s may.sits put) in
    let drawn : new.view.drawn ≡ old.seat.view.drawn = ap (λ (v : View LaneKey). v.drawn) is in let most = free.1 in (
      old.seat.view.at,
      subst (λ (p : Option ℕ). At p old.seat.view.at) (sym may.place_is) tt,
      came,
      record {
        place_is = may.place_is;
        sits = sits_on old.seat new key s (ap (λ (v : View LaneKey). v.key) is) may.sits;
        phase = ap (λ (v : View LaneKey). v.phase) is;
        ticket = ap (λ (v : View LaneKey). v.at) is;
        drawn = omega (arith, drawn, most);
        within = within_fuel key (s - 1) old.seat.view.at x came;
        fuel = may.fuel;
      },
    )

-- .. or not yet
free_on : (has : Bool) (old new : View LaneKey) (fuel : ℕ) → new.phase ≡ old.phase → new.drawn ≡ old.drawn → new.at ≡ old.at → IsFreeBy has old fuel →
    IsFreeBy has new fuel
free_on false old new fuel phase drawn at free = let most = free.1 in (phase ∙ free.0, omega (arith, drawn, most))
free_on true old new fuel phase drawn at free = let most = free.1 in (phase ∙ free.0, omega (arith, drawn, at, most))

pub take_waits : (old : Tickets) (new : Standing LaneKey) (word : ℕ) → IsBusy word old.seat new
    → (key : UnitsKey) (s : ℕ) (place : Option ℕ) → MayTake old key s place → MayTake (record { seat = new; has_ticket = old.has_ticket }) key s place
take_waits old new word busy key s place may = record {
  place_is = may.place_is;
  sits = sits_on old.seat new key s (ap (λ (v : View LaneKey). v.key) busy.1) may.sits;
  free = free_on old.has_ticket old.seat.view new.view key.epoch.fuel (ap (λ (v : View LaneKey). v.phase) busy.1) (ap (λ (v : View LaneKey). v.drawn) busy.1)
      (ap (λ (v : View LaneKey). v.at) busy.1) may.free;
  fuel = may.fuel;
}

-- it may give what it made of the batch
pub may_give : (ends : Tickets) (x : Carried) (key : UnitsKey) (s : ℕ) (place : Option ℕ) (n : ℕ) → HasTaken ends key s place n → IsCarried key s n x
    → (ends.seat.view.phase ≡ Giving) × IfSome ends.seat.view.key (λ (k : LaneKey). IsCarried (key_of k.epoch) k.stage ends.seat.view.at x)
may_give ends x key s place n has is = (
  has.phase,
  known_back (λ (k : LaneKey). IsCarried (key_of k.epoch) k.stage ends.seat.view.at x) ends.seat key s has.sits
      (to_ring ends.seat key s has.sits.ring.stage s n has.sits x has.sits.stage has.ticket is),
)
