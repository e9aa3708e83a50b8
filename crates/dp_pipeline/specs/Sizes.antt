-- Where the batches of an epoch begin, and how many iterations they have.
use Rattle.std.specs.Prelude.{ℕ, suc, List, [], ◌∷◌}
use Rattle.dp_net.specs.Batches.{batch_begin, batch_size}
use Rattle.dp_relay.specs.UnitsKey.{UnitsKey}

-- the place of a batch's first iteration
abbrev pub batch_begins : UnitsKey → ℕ → ℕ
batch_begins key b = batch_begin key.epoch key.cap b

-- how many iterations it may have
abbrev pub size : UnitsKey → ℕ → ℕ
size key b = batch_size key.epoch key.cap b

-- each of a list is so at its place, from this one on
abbrev pub EachFrom : {X : Type 0} → (ℕ → X → Type 0) → ℕ → List X → Type 0
EachFrom P n [] = Unit {0}
EachFrom P n (x ∷ rest) = P n x × EachFrom P (suc n) rest
