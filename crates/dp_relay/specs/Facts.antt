-- What a clause sees of the end that a unit takes from, or sends on.
use Rattle.std.specs.Prelude.{◌≡◌, ◌⊎◌, Bool, true, false, ℕ, ◌+◌, ◌-◌, ◌^◌, ◌<◌, ◌≤◌, Result, Ok, Err}
use Rattle.dp_relay.specs.declared.polled.IdleWhy.{IdleWhy}
use Rattle.dp_relay.specs.declared.polled.IdleWhy.TheVariants.{Empty, Full, Busy}
use Rattle.dp_relay.specs.declared.ends.Refused.{Refused}

-- how many items it took or sent, how many tries were refused or words were loaded, the word that was loaded last, and whether it is at a
-- ring, whose words it loads
pub record Facts : Type 0 where
  pub count : ℕ
  pub tries : ℕ
  pub word : ℕ
  pub at_ring : Bool

-- a number of tries rose, or stands at its greatest value
abbrev pub Rose : ℕ → ℕ → Type 0
Rose old new = (old < new) ⊎ (new ≡ 2 ^ 64 - 1)

-- a ring refused it once more, and the word loaded last is this one
abbrev pub SawWord : ℕ → Facts → Facts → Type 0
SawWord word old new = Rose old.tries new.tries × (new.word ≡ word) × (new.count ≡ old.count) × (new.at_ring ≡ true)

-- a lane, or what starts the iterations, refused it once more
abbrev pub WasRefused : Facts → Facts → Type 0
WasRefused old new = Rose old.tries new.tries × (new.count ≡ old.count) × (new.at_ring ≡ false)

-- nothing was taken or sent. A seat that does both may have loaded words
abbrev pub Stays : Facts → Facts → Type 0
Stays old new = (new.count ≡ old.count) × (old.tries ≤ new.tries)

-- what a refused try to take says, and one to send
abbrev pub RefusesTake : IdleWhy → Facts → Facts → Type 0
RefusesTake Empty old new = WasRefused old new
RefusesTake Full old new = ⊥
RefusesTake (Busy word) old new = SawWord word old new

abbrev pub RefusesSend : IdleWhy → Facts → Facts → Type 0
RefusesSend Empty old new = ⊥
RefusesSend Full old new = WasRefused old new
RefusesSend (Busy word) old new = SawWord word old new

-- what a try to take says, and one to send
abbrev pub Takes : {I : Type 0} → Result I IdleWhy → Facts → Facts → Type 0
Takes (Ok item) old new = new.count ≡ old.count + 1
Takes (Err why) old new = RefusesTake why old new

abbrev pub Sends : {O U : Type 0} → Result U (Refused O) → Facts → Facts → Type 0
Sends (Ok sent) old new = new.count ≡ old.count + 1
Sends (Err refused) old new = RefusesSend refused.why old new
