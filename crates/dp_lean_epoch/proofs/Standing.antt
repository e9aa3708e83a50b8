-- How the iterations of a batch stand, one by one.
use Rattle.dp_semantics.proofs.Names.{◌≡◌, inl, inr, refl, sym, ap, ◌∙◌, subst, arith, ℕ, zero, suc, ◌+◌, ◌<◌, Bool, true, false, not, if◌then◌else◌, List, []}
use Rattle.dp_semantics.proofs.Names.{map, cases_eq}
use Rattle.dp_tree.specs.Numbering.{numbers_from}
use Rattle.dp_semantics.specs.EpochKey.{EpochKey}
use Rattle.dp_net.specs.NetItems.{Marks}
use Rattle.dp_net.specs.NetPackets.{NetStatus, NetGoing, NetClosing, NetVoid, NetPacket}
use Rattle.dp_net.specs.Batches.{is_onward, ends_batch, up_to, batch_begin, batch_size, batch_at}
use Rattle.dp_net.specs.Follows.{is_void}
use Rattle.dp_lean_epoch.specs.Own.{at_stage, Arrives}
use Rattle.dp_lean_epoch.specs.LeanBatch.{Stood, stood_by, stood_in, IterationsStand}
use Rattle.dp_lean_epoch.specs.Laws.{BatchStands, BatchEnds}

going_closing : NetGoing ≡ NetClosing → ⊥
going_closing e = absurd (cc e)

going_void : NetGoing ≡ NetVoid → ⊥
going_void e = absurd (cc e)

closing_void : NetClosing ≡ NetVoid → ⊥
closing_void e = absurd (cc e)

module _ (m : Marks) (key : EpochKey) (s : ℕ) where
  abbrev packet : ℕ → NetPacket
  packet k = (at_stage m key s k).packet

  -- r iterations from the k-th on
  abbrev stood_from : ℕ → ℕ → Stood
  stood_from k r = stood_in (up_to ends_batch (map packet (numbers_from k r)))

  abbrev of : ℕ → NetStatus → Stood
  of n e = record { iterations = n; ends = e }

  -- what the first of them makes of the others
  first_going : (k r : ℕ) → (packet k).status ≡ NetGoing → stood_from k (suc r) ≡ of (suc (stood_from (k + 1) r).iterations) (stood_from (k + 1) r).ends
  first_going k r e = by (ends_batch (packet k)) (ap (λ (status : NetStatus). not (is_onward status)) e)
    where
      rest : List NetPacket
      rest = up_to ends_batch (map packet (numbers_from (k + 1) r))

      by : (b : Bool) → b ≡ false → stood_by (packet k).status (stood_in (if b then [] else rest)) ≡ of (suc (stood_in rest).iterations) (stood_in rest).ends
      by true q = absurd (cc q)
      by false q = ap (λ (status : NetStatus). stood_by status (stood_in rest)) e

  first_closing : (k r : ℕ) → (packet k).status ≡ NetClosing → stood_from k (suc r) ≡ of 1 NetClosing
  first_closing k r e = ap (λ (status : NetStatus). stood_by status
      (stood_in (if ends_batch (packet k) then [] else up_to ends_batch (map packet (numbers_from (k + 1) r))))) e

  first_void : (k r : ℕ) → (packet k).status ≡ NetVoid → stood_from k (suc r) ≡ of 0 NetVoid
  first_void k r e = ap (λ (status : NetStatus). stood_by status
      (stood_in (if ends_batch (packet k) then [] else up_to ends_batch (map packet (numbers_from (k + 1) r))))) e

  -- one iteration further
  status_at : (k i : ℕ) → (packet (k + suc i)).status ≡ (packet ((k + 1) + i)).status
  status_at k i = let same : k + suc i ≡ (k + 1) + i = omega arith in ap (λ (n : ℕ). (packet n).status) same

  here : (k : ℕ) → (packet (k + 0)).status ≡ (packet k).status
  here k = let same : k + 0 ≡ k = omega arith in ap (λ (n : ℕ). (packet n).status) same

  behind_going : (k r n : ℕ) (e : NetStatus) → (packet k).status ≡ NetGoing → IterationsStand m key s (k + 1) r (of n e) →
      IterationsStand m key s k (suc r) (of (suc n) e)
  behind_going k r n e going st = record {
    within = let w = st.within in omega (arith, w);
    going = λ i low. by_going i low;
    at_end = λ i same. by_end i same;
    whole = λ q. ap suc (st.whole q);
    closing = λ q. omega arith;
    void = λ q. let v = st.void q in (omega (arith, v), status_at k n ∙ v.1);
  }
    where
      by_going : (i : ℕ) → suc i < suc n → (packet (k + i)).status ≡ NetGoing
      by_going zero low = here k ∙ going
      by_going (suc i) low = status_at k i ∙ st.going i (omega (arith, low))

      by_end : (i : ℕ) → suc i ≡ suc n → (packet (k + i)).status ≡ (if is_void e then NetGoing else e)
      by_end zero same = here k ∙ going ∙ only n (omega (arith, same)) e st
        where
          only : (n : ℕ) → n ≡ 0 → (e : NetStatus) → IterationsStand m key s (k + 1) r (of n e) → NetGoing ≡ (if is_void e then NetGoing else e)
          only n none NetGoing st = refl
          only n none NetVoid st = refl
          only n none NetClosing st = let some : 0 < n = st.closing refl in absurd (omega (arith, some, none))
      by_end (suc i) same = status_at k i ∙ st.at_end i (omega (arith, same))

  stands_so : (r k : ℕ) → IterationsStand m key s k r (stood_from k r)
  stands_so zero k = record {
    within = omega arith;
    going = λ i low. absurd (omega (arith, low));
    at_end = λ i same. absurd (omega (arith, same));
    whole = λ q. refl;
    closing = λ q. absurd (going_closing q);
    void = λ q. absurd (going_void q);
  }
  stands_so (suc r) k = by (packet k).status refl (stands_so r (k + 1))
    where
      by : (status : NetStatus) → (packet k).status ≡ status → IterationsStand m key s (k + 1) r (stood_from (k + 1) r) →
          IterationsStand m key s k (suc r) (stood_from k (suc r))
      by NetGoing e rest = subst (IterationsStand m key s k (suc r)) (sym (first_going k r e))
          (behind_going k r (stood_from (k + 1) r).iterations (stood_from (k + 1) r).ends e rest)
      by NetClosing e rest = subst (IterationsStand m key s k (suc r)) (sym (first_closing k r e)) (record {
        within = omega arith;
        going = λ i low. absurd (omega (arith, low));
        at_end = λ i same. let none : i ≡ 0 = omega (arith, same) in ap (λ (j : ℕ). (packet (k + j)).status) none ∙ here k ∙ e;
        whole = λ q. absurd (going_closing (sym q));
        closing = λ q. omega arith;
        void = λ q. absurd (closing_void q);
      })
      by NetVoid e rest = subst (IterationsStand m key s k (suc r)) (sym (first_void k r e)) (record {
        within = omega arith;
        going = λ i low. absurd (omega (arith, low));
        at_end = λ i same. absurd (omega (arith, same));
        whole = λ q. absurd (going_void (sym q));
        closing = λ q. absurd (closing_void (sym q));
        void = λ q. (omega arith, here k ∙ e);
      })

  -- none came to its end, though the first one isn't void
  none_there : (r k : ℕ) (e : NetStatus) → ((packet k).status ≡ NetVoid → ⊥) → IterationsStand m key s k (suc r) (of 0 e) → ⊥
  none_there r k NetGoing alive st = let q : 0 ≡ suc r = st.whole refl in absurd (omega (arith, q))
  none_there r k NetClosing alive st = let q : 0 < 0 = st.closing refl in absurd (omega (arith, q))
  none_there r k NetVoid alive st = alive (sym (here k) ∙ (st.void refl).1)

  -- behind the first one, which goes on
  past_going : (k r n : ℕ) (e : NetStatus) → (packet k).status ≡ NetGoing → IterationsStand m key s k (suc r) (of (suc n) e) →
      IterationsStand m key s (k + 1) r (of n e)
  past_going k r n e going st = record {
    within = let w = st.within in omega (arith, w);
    going = λ i low. sym (status_at k i) ∙ st.going (suc i) (omega (arith, low));
    at_end = λ i same. sym (status_at k i) ∙ st.at_end (suc i) (ap suc same);
    whole = λ q. let w : suc n ≡ suc r = st.whole q in omega (arith, w);
    closing = λ q. some n e q st;
    void = λ q. let v = st.void q in (omega (arith, v), sym (status_at k n) ∙ v.1);
  }
    where
      some : (n : ℕ) (e : NetStatus) → e ≡ NetClosing → IterationsStand m key s k (suc r) (of (suc n) e) → 0 < n
      some (suc n) e q st = omega arith
      some zero NetClosing q st = absurd (going_closing (sym (here k ∙ going) ∙ st.at_end 0 refl))
      some zero NetGoing q st = absurd (going_closing q)
      some zero NetVoid q st = absurd (closing_void (sym q))

  -- the first one ends the batch, so it is the last
  last_there : (k r n : ℕ) (e : NetStatus) → ((packet k).status ≡ NetGoing → ⊥) → IterationsStand m key s k (suc r) (of (suc n) e) → (n ≡ 0)
      × ((packet k).status ≡ e)
  last_there k r (suc n) e off st = absurd (off (sym (here k) ∙ st.going 0 (omega arith)))
  last_there k r zero NetGoing off st = absurd (off (sym (here k) ∙ st.at_end 0 refl))
  last_there k r zero NetClosing off st = (refl, sym (here k) ∙ st.at_end 0 refl)
  last_there k r zero NetVoid off st = absurd (off (sym (here k) ∙ st.at_end 0 refl))

  stands_only : (r k n : ℕ) (e : NetStatus) → IterationsStand m key s k r (of n e) → of n e ≡ stood_from k r
  stands_only zero k n e st = let w = st.within in by n e (omega (arith, w)) st
    where
      by : (n : ℕ) (e : NetStatus) → n ≡ 0 → IterationsStand m key s k 0 (of n e) → of n e ≡ of 0 NetGoing
      by n NetGoing none st = ap (λ (j : ℕ). of j NetGoing) none
      by n NetClosing none st = let some : 0 < n = st.closing refl in absurd (omega (arith, some, none))
      by n NetVoid none st = let v : n < 0 = (st.void refl).0 in absurd (omega (arith, v))
  stands_only (suc r) k n e st = by (packet k).status refl n e st (λ j f. stands_only r (k + 1) j f)
    where
      by : (status : NetStatus) → (packet k).status ≡ status → (n : ℕ) (e : NetStatus) → IterationsStand m key s k (suc r) (of n e) →
          ((j : ℕ) (f : NetStatus) → IterationsStand m key s (k + 1) r (of j f) → of j f ≡ stood_from (k + 1) r) → of n e ≡ stood_from k (suc r)
      by NetGoing is zero e st go = absurd (none_there r k e (λ q. going_void (sym is ∙ q)) st)
      by NetGoing is (suc n) e st go =
          ap (λ (x : Stood). of (suc x.iterations) x.ends) (go n e (past_going k r n e is st)) ∙ sym (first_going k r is)
      by NetClosing is zero e st go = absurd (none_there r k e (λ q. closing_void (sym is ∙ q)) st)
      by NetClosing is (suc n) e st go =
          let l = last_there k r n e (λ q. going_closing (sym q ∙ is)) st in
          ap (λ (j : ℕ). of (suc j) e) l.0 ∙ ap (of 1) (sym l.1 ∙ is) ∙ sym (first_closing k r is)
      by NetVoid is zero NetVoid st go = sym (first_void k r is)
      by NetVoid is zero NetGoing st go = let q : 0 ≡ suc r = st.whole refl in absurd (omega (arith, q))
      by NetVoid is zero NetClosing st go = let q : 0 < 0 = st.closing refl in absurd (omega (arith, q))
      by NetVoid is (suc n) e st go =
          let l = last_there k r n e (λ q. going_void (sym q ∙ is)) st in
          absurd (void_last n e l.0 (sym l.1 ∙ is) st)
        where
          void_last : (n : ℕ) (e : NetStatus) → n ≡ 0 → e ≡ NetVoid → IterationsStand m key s k (suc r) (of (suc n) e) → ⊥
          void_last n NetGoing none q st = going_void q
          void_last n NetClosing none q st = closing_void q
          void_last (suc n) NetVoid none q st = absurd (omega (arith, none))
          void_last zero NetVoid none q st = going_void (sym (st.at_end 0 refl) ∙ here k ∙ is)

module _ (m : Marks) (key : EpochKey) where
  -- of the iterations that came to their end none is void
  pub alive_at : (s k r : ℕ) (x : Stood) → IterationsStand m key s k r x → (i : ℕ) → i < x.iterations → Arrives m key s (k + i)
  alive_at s k r x st i low = elim (cases_eq (suc i) x.iterations) [
    | inl same ↦ ap is_void (st.at_end i same) ∙ ending x.ends
    | inr other ↦ ap is_void (st.going i (omega (arith, low, other)))
  ]
    where
      ending : (e : NetStatus) → is_void (if is_void e then NetGoing else e) ≡ false
      ending NetGoing = refl
      ending NetClosing = refl
      ending NetVoid = refl

  pub batch_stands : (cap s b : ℕ) → BatchStands m key cap s b
  batch_stands cap s b = record {
    each = stands_so m key s (batch_size key cap b) (batch_begin key cap b);
    only = λ x st. stands_only m key s (batch_size key cap b) (batch_begin key cap b) x.iterations x.ends st;
    arrive = alive_at s (batch_begin key cap b) (batch_size key cap b) (stood_in (batch_at m key cap s b))
        (stands_so m key s (batch_size key cap b) (batch_begin key cap b));
  }

  pub batch_ends : (s k r : ℕ) → BatchEnds m key s k r
  batch_ends s k r = record {
    whole = λ onward. record {
      within = omega arith;
      going = λ i low. onward i (omega (arith, low));
      at_end = λ i same. onward i (omega (arith, same));
      whole = λ q. refl;
      closing = λ q. absurd (going_closing q);
      void = λ q. absurd (going_void q);
    };
    closing = λ i low onward ends. record {
      within = omega (arith, low);
      going = λ j less. onward j (omega (arith, less));
      at_end = λ j same. let there : j ≡ i = omega (arith, same) in ap (λ (h : ℕ). (at_stage m key s (k + h)).packet.status) there ∙ ends;
      whole = λ q. absurd (going_closing (sym q));
      closing = λ q. omega arith;
      void = λ q. absurd (closing_void q);
    };
    void = λ i low onward ends. record {
      within = omega (arith, low);
      going = λ j less. onward j (omega (arith, less));
      at_end = λ j same. onward j (omega (arith, same));
      whole = λ q. absurd (going_void (sym q));
      closing = λ q. absurd (closing_void (sym q));
      void = λ q. (low, ends);
    };
  }
