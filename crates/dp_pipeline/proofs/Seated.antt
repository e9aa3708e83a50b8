-- What comes out of a ring is the next batch of its epoch, and what goes in is.
use Rattle.std.proofs.Common.{arith, ◌≡◌, ◌<◌, ℕ, ◌+◌, ◌-◌, ◌^◌, Option, IfSome, sym, ◌∙◌, subst}
use Rattle.dp_relay.specs.UnitsKey.{UnitsKey}
use Rattle.dp_ring.specs.declared.view.Standing.{Standing}
use Rattle.dp_pipeline.specs.declared.keys.LaneKey.{LaneKey}
use Rattle.dp_pipeline.specs.declared.carried.Carried.{Carried}
use Rattle.dp_pipeline.specs.Carried.{IsCarried}
use Rattle.dp_pipeline.specs.Keys.{key_of}
use Rattle.dp_pipeline.proofs.Growth.{within_fuel}
use Rattle.dp_pipeline.specs.Seats.{SitsAt, PutsTo}

-- the seat knows the ring's key
pub known : (P : LaneKey → Type 0) (seat : Standing LaneKey) (key : UnitsKey) (s : ℕ) (at : SitsAt seat key s) → IfSome seat.view.key P → P at.ring
known P seat key s at holds = subst (λ (k : Option LaneKey). IfSome k P) at.key_is holds

pub known_back : (P : LaneKey → Type 0) (seat : Standing LaneKey) (key : UnitsKey) (s : ℕ) (at : SitsAt seat key s) → P at.ring → IfSome seat.view.key P
known_back P seat key s at holds = subst (λ (k : Option LaneKey). IfSome k P) (sym at.key_is) holds

-- a seat that still knows the ring's key is at the same place
pub sits_on : (old new : Standing LaneKey) (key : UnitsKey) (s : ℕ) → new.view.key ≡ old.view.key → SitsAt old key s → SitsAt new key s
sits_on old new key s same at = record { ring = at.ring; key_is = same ∙ at.key_is; epoch = at.epoch; stage = at.stage }

-- what an item is to the ring's key, and to the epoch
pub to_epoch : (seat : Standing LaneKey) (key : UnitsKey) (s t u n : ℕ) (at : SitsAt seat key s) (x : Carried) → t ≡ u → seat.view.at ≡ n
    → IsCarried (key_of at.ring.epoch) t seat.view.at x → IsCarried key u n x
to_epoch seat key s t u n at x stage place is =
    subst (λ (e : UnitsKey). IsCarried e u n x) at.epoch (subst (λ (k : ℕ). IsCarried (key_of at.ring.epoch) k n x) stage
    (subst (λ (k : ℕ). IsCarried (key_of at.ring.epoch) t k x) place is))

pub to_ring : (seat : Standing LaneKey) (key : UnitsKey) (s t u n : ℕ) (at : SitsAt seat key s) (x : Carried) → t ≡ u → seat.view.at ≡ n
    → IsCarried key u n x → IsCarried (key_of at.ring.epoch) t seat.view.at x
to_ring seat key s t u n at x stage place is =
    subst (λ (k : ℕ). IsCarried (key_of at.ring.epoch) t k x) (sym place) (subst (λ (k : ℕ). IsCarried (key_of at.ring.epoch) k n x) (sym stage)
    (subst (λ (e : UnitsKey). IsCarried e u n x) (sym at.epoch) is))

-- a batch may be put into the ring
pub may_put : (seat : Standing LaneKey) (x : Carried) (key : UnitsKey) (s n : ℕ) → PutsTo seat key s n → IsCarried key s n x
    → IfSome seat.view.key (λ (k : LaneKey). IsCarried (key_of k.epoch) (k.stage - 1) seat.view.at x) × (seat.view.at < 2 ^ 62)
may_put seat x key s n at is =
    let stage = at.0.stage in let before : at.0.ring.stage - 1 ≡ s = omega (arith, stage) in
    let place = at.1 in let least = within_fuel key s n x is in let few = at.2 in (
      known_back (λ (k : LaneKey). IsCarried (key_of k.epoch) (k.stage - 1) seat.view.at x) seat key (s + 1) at.0
          (to_ring seat key (s + 1) (at.0.ring.stage - 1) s n at.0 x before at.1 is),
      omega (arith, place, least, few),
    )
