-- What a clause sees of a unit, and what a poll does.
use Rattle.std.specs.Prelude.{◌≡◌, ◌⊎◌, ℕ, ◌+◌, Bool, true, Option, Some, None, if◌then◌else◌}
use Rattle.dp_stop.specs.Flag.{Looks}
use Rattle.dp_relay.specs.Facts.{Facts}
use Rattle.dp_relay.specs.Offers.{Advances}
use Rattle.dp_relay.specs.declared.polled.Polled.{Polled}
use Rattle.dp_relay.specs.declared.polled.Polled.TheVariants.{Ended}
use Rattle.dp_relay.specs.declared.polled.EndedWhy.{EndedWhy}
use Rattle.dp_relay.specs.declared.polled.EndedWhy.TheVariants.{Last, Stopped}

-- what is known of the end that it takes from and of the one that it sends on, whether an ending item was sent last, how often the stop
-- flag was looked at, and whether it was seen set
pub record Counts : Type 0 where
  pub taking : Facts
  pub sending : Facts
  pub last : Bool
  pub loads : ℕ
  pub stopped : Bool

abbrev pub counts_of : Facts → Facts → Bool → Looks → Counts
counts_of taking sending last seat = record { taking = taking; sending = sending; last = last; loads = seat.loads; stopped = seat.seen }

-- an ending item was sent, or the flag was seen set
abbrev pub HasEnded : Counts → Type 0
HasEnded counts = (counts.last ≡ true) ⊎ (counts.stopped ≡ true)

-- what the answer of a poll says: what was sent and refused, or that the unit has ended and neither took nor sent
abbrev pub Polls : Counts → Polled → Counts → Type 0
Polls old Ended new = HasEnded new × (new.taking ≡ old.taking) × (new.sending ≡ old.sending)
Polls old answer new = Advances old.taking old.sending answer new.taking new.sending

-- a unit that has ended stays as it is; another looks at the flag once, and ends where it saw it set
abbrev pub LooksOnce : Counts → Polled → Counts → Type 0
LooksOnce old answer new = (HasEnded old → new ≡ old) × (¬ HasEnded old → (new.loads ≡ old.loads + 1) × (new.stopped ≡ true → answer ≡ Ended))

-- why a unit has ended: an ending item was sent, or else the flag was seen set
abbrev pub why_ended : Counts → Option EndedWhy
why_ended counts = if counts.last then Some Last else (if counts.stopped then Some Stopped else None)
