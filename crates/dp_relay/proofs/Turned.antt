-- A turn of a unit leaves it at work.
use Rattle.std.proofs.Common.{◌≡◌, ℕ, ◌+◌, ◌-◌, Bool, false, Option, None, sym, ap, ◌∙◌, subst, refl}
use Rattle.dp_relay.specs.UnitsKey.{UnitsKey}
use Rattle.dp_relay.specs.declared.stage.Made.{Made}
use Rattle.dp_relay.specs.Facts.{Facts, Stays}
use Rattle.dp_relay.specs.Places.{At, place_behind}
use Rattle.dp_relay.specs.Works.{HasMade, HasSentAll, IsAtWork}

module _ {E S I O : Type 0} (ready : E → UnitsKey → ℕ → Option ℕ → Type 0) (holds : E → UnitsKey → ℕ → Option ℕ → ℕ → Type 0)
    (taking sending : E → Facts) (ended : E → Bool)
    (stands : S → UnitsKey → ℕ → Option ℕ → Type 0) (is_taken : UnitsKey → ℕ → ℕ → I → Type 0) (is_sent : UnitsKey → ℕ → ℕ → O → Type 0)
    (is_last : UnitsKey → O → Bool) where
  pub none_held : (stage : S) (ends : E) (held : Option (Made O)) → held ≡ None → IsAtWork ready holds taking sending ended stands is_sent is_last
      stage ends false held
      → HasSentAll ready holds taking sending ended stands is_sent is_last stage ends false
  none_held stage ends held is w = subst (λ (h : Option (Made O)). IsAtWork ready holds taking sending ended stands is_sent is_last stage ends false h) is w

  -- an item came, and the stage ran on it
  pub has_run : (stage stage' : S) (old new : E) (item : I) (made : Made O) → HasSentAll ready holds taking sending ended stands is_sent is_last stage old false
      → ((key : UnitsKey) (s : ℕ) (place : Option ℕ) → ready old key s place → (n : ℕ) × At place n × is_taken key (s - 1) n item × holds new key s place n)
      → ((key : UnitsKey) (s : ℕ) (place : Option ℕ) (n : ℕ) → stands stage key s place → At place n → is_taken key (s - 1) n item
      → is_sent key s n made.item × (made.last ≡ is_last key made.item) × (made.last ≡ false → stands stage' key s (place_behind place n)))
      → (taking new).count ≡ (taking old).count + 1 → Stays (sending old) (sending new) → ended new ≡ ended old
      → HasMade ready holds taking sending ended stands is_sent is_last stage' new made
  has_run stage stage' old new item made w came makes count same mark =
      let c = came w.key w.number w.place w.free in
      let m = makes w.key w.number w.place c.0 (w.stands_on refl) c.1 c.2 in record {
        key = w.key;
        number = w.number;
        place = w.place;
        at = c.0;
        held = c.3;
        item = m.0;
        last = m.1;
        stands_on = m.2;
        mark = mark ∙ w.mark;
        counts = count ∙ ap (λ (k : ℕ). k + 1) w.counts ∙ ap (λ (k : ℕ). k + 1) (sym same.0);
      }
