-- What holds of a unit between two polls.
use Rattle.std.specs.Prelude.{◌≡◌, ℕ, ◌+◌, Bool, false, Option, Some, None}
use Rattle.dp_relay.specs.UnitsKey.{UnitsKey}
use Rattle.dp_relay.specs.declared.stage.Made.{Made}
use Rattle.dp_relay.specs.Facts.{Facts}
use Rattle.dp_relay.specs.Places.{place_behind}

module _ {E S O : Type 0} (ready : E → UnitsKey → ℕ → Option ℕ → Type 0) (holds : E → UnitsKey → ℕ → Option ℕ → ℕ → Type 0)
    (taking sending : E → Facts) (ended : E → Bool)
    (stands : S → UnitsKey → ℕ → Option ℕ → Type 0) (is_sent : UnitsKey → ℕ → ℕ → O → Type 0) (is_last : UnitsKey → O → Bool) where
  -- an item was taken. What was made of it is to be sent, and the stage goes on unless this is an ending one
  pub record HasMade (stage : S) (ends : E) (made : Made O) : Type 0 where
    pub key : UnitsKey
    pub number : ℕ
    pub place : Option ℕ
    pub at : ℕ
    pub held : holds ends key number place at
    pub item : is_sent key number at made.item
    pub last : made.last ≡ is_last key made.item
    pub stands_on : made.last ≡ false → stands stage key number (place_behind place at)
    pub mark : ended ends ≡ false
    pub counts : (taking ends).count ≡ (sending ends).count + 1

  -- all that was taken was sent, and the stage goes on unless the last item was an ending one
  pub record HasSentAll (stage : S) (ends : E) (last : Bool) : Type 0 where
    pub key : UnitsKey
    pub number : ℕ
    pub place : Option ℕ
    pub free : ready ends key number place
    pub stands_on : last ≡ false → stands stage key number place
    pub mark : ended ends ≡ last
    pub counts : (taking ends).count ≡ (sending ends).count

  -- nothing is held, and all was sent; or what is held is the next to be sent
  abbrev pub IsAtWork : S → E → Bool → Option (Made O) → Type 0
  IsAtWork stage ends last None = HasSentAll stage ends last
  IsAtWork stage ends last (Some made) = HasMade stage ends made × (last ≡ false)
