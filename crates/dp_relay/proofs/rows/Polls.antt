-- What the answer of a poll says, written out.
use Rattle.std.proofs.Common.{arith, ◌≡◌, ◌<◌, ◌⊎◌, inl, inr, ℕ, ◌+◌, ◌-◌, ◌^◌, true, false}
use Rattle.dp_relay.specs.declared.polled.Polled.{Polled}
use Rattle.dp_relay.specs.declared.polled.Polled.TheVariants.{Moved, Idle, Ended}
use Rattle.dp_relay.specs.declared.polled.IdleWhy.TheVariants.{Empty, Full, Busy}
use Rattle.dp_relay.specs.Facts.{Rose}
use Rattle.dp_relay.specs.Polls.{Counts, HasEnded, Polls, LooksOnce}

-- a number of tries that stays hasn't risen
stays_low : (n : ℕ) → n < 2 ^ 64 - 1 → Rose n n → ⊥
stays_low n low rose = elim rose [ inl more ↦ omega (arith, more) | inr most ↦ omega (arith, low, most) ]

module _ (old new : Counts) where
  one_came_and_was_sent : Polls old Moved new → (new.sending.count ≡ old.sending.count + 1) × (new.taking.count ≡ new.sending.count)
  one_came_and_was_sent p = p

  none_came_on_a_lane : Polls old (Idle Empty) new → Rose old.taking.tries new.taking.tries × (new.taking.at_ring ≡ false)
      × (new.taking.count ≡ old.taking.count) × (new.sending.count ≡ old.sending.count) × (new.taking.count ≡ new.sending.count)
  none_came_on_a_lane p = elim p.1 [ inl t ↦ (t.0.0, t.0.2, t.0.1, p.0, t.1) | inr s ↦ absurd s.0 ]

  a_lane_had_no_place : Polls old (Idle Full) new → Rose old.sending.tries new.sending.tries × (new.sending.at_ring ≡ false)
      × (new.sending.count ≡ old.sending.count) × (new.taking.count ≡ new.sending.count + 1)
  a_lane_had_no_place p = elim p.1 [ inl t ↦ absurd t.0 | inr s ↦ (s.0.0, s.0.2, p.0, s.1) ]

  no_turn_at_a_ring : (word : ℕ) → Polls old (Idle (Busy word)) new → ((new.taking.at_ring ≡ true) × (new.taking.word ≡ word))
      ⊎ ((new.sending.at_ring ≡ true) × (new.sending.word ≡ word))
  no_turn_at_a_ring word p = elim p.1 [ inl t ↦ inl (t.0.3, t.0.1) | inr s ↦ inr (s.0.3, s.0.1) ]

  at_its_end_it_moves_nothing : Polls old Ended new → ((new.last ≡ true) ⊎ (new.stopped ≡ true)) × (new.taking ≡ old.taking) × (new.sending ≡ old.sending)
  at_its_end_it_moves_nothing p = p

  behind_its_end_it_stays : (answer : Polled) → LooksOnce old answer new → (old.last ≡ true) ⊎ (old.stopped ≡ true) → new ≡ old
  behind_its_end_it_stays answer looks e = looks.0 e

  else_it_looks_once : (answer : Polled) → LooksOnce old answer new → ¬ HasEnded old → (new.loads ≡ old.loads + 1) × (new.stopped ≡ true → answer ≡ Ended)
  else_it_looks_once answer looks on = looks.1 on
