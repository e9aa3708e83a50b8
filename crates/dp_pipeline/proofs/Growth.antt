-- How the batches of an epoch grow.
use Rattle.std.proofs.Common.{arith, ◌≡◌, ◌≤◌, ℕ, zero, suc, ◌+◌, ◌-◌, ap, ◌∙◌}
use Rattle.std.specs.Prelude.{min, max}
use Rattle.std.proofs.Math.Nat.{le-min, le-max_left, min-le_left}
use Rattle.dp_relay.specs.UnitsKey.{UnitsKey}
use Rattle.dp_pipeline.specs.declared.carried.Carried.{Carried}
use Rattle.dp_pipeline.specs.Carried.{IsCarried}
use Rattle.dp_pipeline.specs.Sizes.{batch_begins, size}
use Rattle.dp_pipeline.specs.steps.Supplying.{size_at}

some_go : (cap first k fuel : ℕ) → first + k ≤ fuel → 1 ≤ min (suc fuel - (first + k)) (max 1 (min cap k))
some_go cap first k fuel low = le-min {k = 1} {a = suc fuel - (first + k)} {b = max 1 (min cap k)} (omega (arith, low)) (le-max_left 1 (min cap k))

below : (first k n fuel : ℕ) → first + (k + n) ≤ fuel → first + k ≤ fuel
below first k n fuel low = omega (arith, low)

one_further : (b k n : ℕ) → b ≤ k → 1 ≤ n → suc b ≤ k + n
one_further b k n least some = omega (arith, least, some)

-- each batch that begins not above the fuel's number has an iteration
pub many_begin : (key : UnitsKey) (b : ℕ) → key.epoch.first + batch_begins key b ≤ key.epoch.fuel → b ≤ batch_begins key b
many_begin key zero low = omega arith
many_begin key (suc b) low =
    let before = below key.epoch.first (batch_begins key b) (size key b) key.epoch.fuel low in
    one_further b (batch_begins key b) (size key b) (many_begin key b before) (some_go key.cap key.epoch.first (batch_begins key b) key.epoch.fuel before)

-- there are no more batches than iterations up to the fuel's number
pub within_fuel : (key : UnitsKey) (s b : ℕ) (x : Carried) → IsCarried key s b x → b ≤ key.epoch.fuel
within_fuel key s b x is =
    let number = is.sent.first in let within = is.within in
    let low : key.epoch.first + batch_begins key b ≤ key.epoch.fuel = omega (arith, number, within) in
    let least = many_begin key b low in omega (arith, least, low)

fits : (cap first k fuel : ℕ) → first + k ≤ fuel → k + min (suc fuel - (first + k)) (max 1 (min cap k)) ≤ suc fuel
fits cap first k fuel low = let least = min-le_left (suc fuel - (first + k)) (max 1 (min cap k)) in omega (arith, low, least)

-- a batch's iterations aren't above the fuel's number
pub ends_within : (key : UnitsKey) (s b : ℕ) (x : Carried) → IsCarried key s b x → batch_begins key b + size key b ≤ suc key.epoch.fuel
ends_within key s b x is =
    let number = is.sent.first in let within = is.within in
    fits key.cap key.epoch.first (batch_begins key b) key.epoch.fuel (omega (arith, number, within))

-- the size by what the start holds is that of the batch
pub size_is : (key : UnitsKey) (first next fuel cap b : ℕ) → first ≡ key.epoch.first → next ≡ key.epoch.first + batch_begins key b →
    fuel ≡ key.epoch.fuel → cap ≡ key.cap
    → size_at first next fuel cap ≡ size key b
size_is key first next fuel cap b first_is next_is fuel_is cap_is =
    let place : (key.epoch.first + batch_begins key b) - key.epoch.first ≡ batch_begins key b = omega arith in
    (λ i. size_at (first_is i) (next_is i) (fuel_is i) (cap_is i))
    ∙ ap (λ (k : ℕ). min (suc key.epoch.fuel - (key.epoch.first + batch_begins key b)) (max 1 (min key.cap k))) place
