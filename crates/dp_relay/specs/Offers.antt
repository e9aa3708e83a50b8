-- What the two halves of a poll do.
use Rattle.std.specs.Prelude.{◌≡◌, ◌⊎◌, ℕ, ◌+◌, Bool, Option, Some, None}
use Rattle.dp_relay.specs.UnitsKey.{UnitsKey}
use Rattle.dp_relay.specs.declared.stage.Made.{Made}
use Rattle.dp_relay.specs.declared.polled.Polled.{Polled}
use Rattle.dp_relay.specs.declared.polled.Polled.TheVariants.{Moved, Idle, Ended}
use Rattle.dp_relay.specs.Facts.{Facts, Stays, RefusesTake, RefusesSend}
use Rattle.dp_relay.specs.Places.{place_behind}

module _ {E O : Type 0} (ready : E → UnitsKey → ℕ → Option ℕ → Type 0) (holds : E → UnitsKey → ℕ → Option ℕ → ℕ → Type 0)
    (taking sending : E → Facts) (ended : E → Bool)
    (is_sent : UnitsKey → ℕ → ℕ → O → Type 0) (is_last : UnitsKey → O → Bool) (made : Made O) (old new : E) (last after : Bool) (held : Option (Made O)) where
  -- the item was sent, and nothing is held; or it wasn't, and is held
  abbrev pub Offers : Polled → Type 0
  Offers Moved =
      ((key : UnitsKey) (s : ℕ) (place : Option ℕ) (n : ℕ) → holds old key s place n → is_sent key s n made.item → ready new key s (place_behind place n)
      × (ended new ≡ is_last key made.item))
      × Stays (taking old) (taking new) × ((sending new).count ≡ (sending old).count + 1) × (after ≡ made.last) × (held ≡ None)
  Offers (Idle why) =
      ((key : UnitsKey) (s : ℕ) (place : Option ℕ) (n : ℕ) → holds old key s place n → holds new key s place n)
      × Stays (taking old) (taking new) × RefusesSend why (sending old) (sending new) × (after ≡ last) × (held ≡ Some made) × (ended new ≡ ended old)
  Offers Ended = ⊥

-- what one turn of a unit that goes on does to its ends: one item more was sent; or a try to take was refused, and all that was taken was sent;
-- or a try to send was refused, and one item is held
abbrev pub Advances : Facts → Facts → Polled → Facts → Facts → Type 0
Advances taking sending Moved taking' sending' = (sending'.count ≡ sending.count + 1) × (taking'.count ≡ sending'.count)
Advances taking sending (Idle why) taking' sending' =
    (sending'.count ≡ sending.count)
    × ((RefusesTake why taking taking' × (taking'.count ≡ sending'.count)) ⊎ (RefusesSend why sending sending' × (taking'.count ≡ sending'.count + 1)))
Advances taking sending Ended taking' sending' = ⊥
