-- A stage's own items at several iterations, one behind the other.
use Rattle.dp_semantics.proofs.Names.{◌≡◌, refl, sym, ap, ◌∙◌, subst, arith, ℕ, zero, suc, ◌+◌, ◌<◌, Bool, true, false, List, [], ◌++◌, length, Option, Some}
use Rattle.dp_semantics.proofs.Names.{None, Load, first_site, flat_map}
use Rattle.std.proofs.lemmas.List.Concat.{flat_map-cons}
use Rattle.std.proofs.lemmas.List.Elements.{filter_map-append}
use Rattle.dp_tree.specs.Numbering.{numbers_from}
use Rattle.dp_semantics.specs.EpochKey.{EpochKey, epoch_of}
use Rattle.dp_net.specs.NetItems.{Marks, Item}
use Rattle.dp_net.specs.NetRun.{NetEnded, net_begin}
use Rattle.dp_net.specs.NetPackets.{NetStatus, NetGoing, NetClosing, NetVoid, net_status_of, NetPassed, net_passed_on}
use Rattle.dp_net.specs.Follows.{is_void}
use Rattle.dp_net.proofs.ItemLists.{list_past}
use Rattle.dp_lean.specs.Queues.{Told, told_at, told_in, loads_told}
use Rattle.dp_lean_epoch.specs.Own.{at_stage, Arrives, own_items}
use Rattle.dp_lean_epoch.proofs.Arriving.{turn_at, ran, passed_by_turn, sent_so, own_is, sized}
use Rattle.dp_lean_epoch.proofs.OwnWhole.{loads_split, Whole, whole_none, whole_join, whole_from}

module _ (m : Marks) (key : EpochKey) where
  open key use {program, plan, input}

  -- a void packet lacks a list
  short : (s n : ℕ) → is_void (at_stage m key s n).packet.status ≡ true → length (at_stage m key s n).packet.lists < s
  short zero n void = absurd (cc void)
  short (suc s) n void = by (at_stage m key s n).packet.status refl (λ came_void. short s n came_void)
    where
      came : (status : NetStatus) → (at_stage m key s n).packet.status ≡ status → is_void status ≡ false →
          length (at_stage m key (suc s) n).packet.lists < suc s
      came status is alive = by (turn_at m key s n) refl
        where
          arrives : Arrives m key s n
          arrives = ap is_void is ∙ alive

          by : (turn : Option NetEnded) → turn_at m key s n ≡ turn → length (at_stage m key (suc s) n).packet.lists < suc s
          by None e =
              let same : (at_stage m key (suc s) n).packet.lists ≡ (at_stage m key s n).packet.lists =
              ap (λ (w : NetPassed). w.packet.lists) (passed_by_turn m key s n arrives None e) in
              let size = sized m key s n arrives in
              let long = ap length same in omega (arith, size, long)
          by (Some f) e =
              let status = ap (λ (w : NetPassed). w.packet.status) (passed_by_turn m key s n arrives (Some f) e) in
              alive_still (at_stage m key s n).packet.status f.closing arrives (sym (ap is_void status) ∙ void)
            where
              alive_still : (status : NetStatus) (closing : Bool) → is_void status ≡ false →
                  is_void (net_status_of status closing) ≡ true → length (at_stage m key (suc s) n).packet.lists < suc s
              alive_still NetGoing true a b = absurd (cc b)
              alive_still NetGoing false a b = absurd (cc b)
              alive_still NetClosing c a b = absurd (cc b)
              alive_still NetVoid c a b = absurd (cc a)

      by : (status : NetStatus) → (at_stage m key s n).packet.status ≡ status →
          (is_void (at_stage m key s n).packet.status ≡ true → length (at_stage m key s n).packet.lists < s) →
          length (at_stage m key (suc s) n).packet.lists < suc s
      by NetGoing is before = came NetGoing is refl
      by NetClosing is before = came NetClosing is refl
      by NetVoid is before =
          let same : (at_stage m key (suc s) n).packet.lists ≡ (at_stage m key s n).packet.lists =
          ap (λ (w : NetPassed). w.packet.lists) (ran m key s n)
          ∙ ap (λ (status : NetStatus). (net_passed_on m (epoch_of key) (suc s) (at_stage m key (suc s) n).before (at_stage m key s n).packet
          (turn_at m key s n) status).packet.lists) is in
          let less = before (ap is_void is) in
          let long = ap length same in omega (arith, less, long)

  -- .. so it has no own items
  pub none_of_void : (s n : ℕ) → is_void (at_stage m key (suc s) n).packet.status ≡ true → own_items m key (suc s) n ≡ []
  none_of_void s n void = let less = short (suc s) n void in list_past program plan m (at_stage m key (suc s) n).packet.lists (suc s) (omega arith) less

  own_whole : (t n : ℕ) → 0 < t → Whole (first_site program plan) (own_items m key t n)
  own_whole zero n some = absurd (omega (arith, some))
  own_whole (suc s) n some = by (is_void (at_stage m key (suc s) n).packet.status) refl
    where
      by : (b : Bool) → is_void (at_stage m key (suc s) n).packet.status ≡ b → Whole (first_site program plan) (own_items m key (suc s) n)
      by true void = subst (Whole (first_site program plan)) (sym (none_of_void s n void)) (whole_none (first_site program plan))
      by false alive =
          let sent = sent_so m key s n alive in
          subst (Whole (first_site program plan)) (sym (own_is m key s n alive))
          (whole_from program plan m input (suc s) (omega arith) _ (net_begin program plan (suc s) (at_stage m key (suc s) n).before
          (at_stage m key s n).packet.lists)
          sent.ended (whole_none (first_site program plan)) sent.ends)

  abbrev since : ℕ → ℕ → ℕ → List Item
  since t k j = flat_map (own_items m key t) (numbers_from k j)

  first_of : (t k j : ℕ) → since t k (suc j) ≡ own_items m key t k ++ since t (k + 1) j
  first_of t k j = flat_map-cons (own_items m key t) k (numbers_from (k + 1) j)

  pub since_whole : (t k j : ℕ) → 0 < t → Whole (first_site program plan) (since t k j)
  since_whole t k zero some = whole_none (first_site program plan)
  since_whole t k (suc j) some = subst (Whole (first_site program plan)) (sym (first_of t k j))
      (whole_join (first_site program plan) (own_items m key t k) (since t (k + 1) j) (own_whole t k some) (since_whole t (k + 1) j some))

  pub told_since : (t k j y : ℕ) → told_in y (since t k j) ≡ flat_map (λ (n : ℕ). told_in y (own_items m key t n)) (numbers_from k j)
  told_since t k zero y = refl
  told_since t k (suc j) y = ap (told_in y) (first_of t k j)
      ∙ filter_map-append (told_at y) (own_items m key t k) (since t (k + 1) j)
      ∙ ap (λ (ts : List Told). told_in y (own_items m key t k) ++ ts) (told_since t (k + 1) j y)
      ∙ sym (flat_map-cons (λ (n : ℕ). told_in y (own_items m key t n)) k (numbers_from (k + 1) j))

  pub loads_since : (t k j y : ℕ) → 0 < t → loads_told y [] (since t k j) ≡ flat_map (λ (n : ℕ). loads_told y [] (own_items m key t n)) (numbers_from k j)
  loads_since t k zero y some = refl
  loads_since t k (suc j) y some =
      let w = own_whole t k some in
      ap (loads_told y []) (first_of t k j)
      ∙ loads_split y (own_items m key t k) (since t (k + 1) j) (w.loads y)
      ∙ ap (λ (ls : List (List Load)). loads_told y [] (own_items m key t k) ++ ls) (loads_since t (k + 1) j y some)
      ∙ sym (flat_map-cons (λ (n : ℕ). loads_told y [] (own_items m key t n)) k (numbers_from (k + 1) j))
