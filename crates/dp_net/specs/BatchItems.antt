-- Where batches end: which is whole, and which has one behind it.
use Rattle.std.specs.Prelude.{◌≡◌, ℕ, suc, ◌+◌, ◌<◌, Bool, true, false, not, List, length, nat_lt}
use Rattle.std.specs.List.{list_all}
use Rattle.dp_semantics.specs.EpochKey.{EpochKey, epoch_of}
use Rattle.dp_net.specs.NetItems.{Marks}
use Rattle.dp_net.specs.NetPackets.{NetPacket, net_passed}
use Rattle.dp_net.specs.Batches.{batch_begin, batch_size, batch_at, ends_batch}

-- each packet goes on
abbrev pub all_go_on : List NetPacket → Bool
all_go_on packets = list_all (λ packet. not (ends_batch packet)) packets

-- the next batch would begin behind the iteration whose number is the fuel's
abbrev pub spends_fuel : EpochKey → ℕ → ℕ → Bool
spends_fuel key cap b = nat_lt key.fuel (key.first + batch_begin key cap (suc b))

-- A packet that doesn't go on for a stage doesn't for the next one: so a later stage's batch has no more packets than an earlier one's.
abbrev pub EndsStay : Type 0
EndsStay = (m : Marks) (key : EpochKey) (s n : ℕ) → ends_batch (net_passed m (epoch_of key) s n).packet ≡ true →
    ends_batch (net_passed m (epoch_of key) (suc s) n).packet ≡ true

-- Where each packet of a batch goes on, the batch is whole.
abbrev pub BatchesAreWhole : Type 0
BatchesAreWhole = (m : Marks) (key : EpochKey) (cap s b : ℕ) → all_go_on (batch_at m key cap s b) ≡ true →
    length (batch_at m key cap s b) ≡ batch_size key cap b

-- A batch that may follow has an iteration.
abbrev pub NextHasSome : Type 0
NextHasSome = (key : EpochKey) (cap b : ℕ) → spends_fuel key cap b ≡ false → 0 < batch_size key cap (suc b)
