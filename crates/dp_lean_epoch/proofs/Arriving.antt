-- What a stage sends that isn't void: what came, with its own items behind, and the end of its turn.
use Rattle.dp_semantics.proofs.Names.{◌≡◌, inl, inr, refl, sym, ap, ◌∙◌, arith, ℕ, zero, suc, ◌<◌, ◌≤◌, Bool, true, false, if◌then◌else◌, nat_le, le-leb, List}
use Rattle.dp_semantics.proofs.Names.{[], ◌∷◌, ◌++◌, ℤ, length, length-append, cases_lt, cases_eq, Option, Some, None, slice_get, leb-true, Epoch, stage_of}
use Rattle.dp_semantics.specs.EpochKey.{EpochKey, epoch_of}
use Rattle.dp_net.specs.NetItems.{Marks, Item, item_list}
use Rattle.dp_net.specs.NetRun.{NetEnded, net_run}
use Rattle.dp_net.specs.NetPackets.{NetStatus, NetGoing, NetClosing, NetVoid, net_status_of, NetPacket, NetPassed, net_passed_by, net_passed_on, net_run_on}
use Rattle.dp_net.specs.Follows.{is_void}
use Rattle.dp_net.proofs.ItemLists.{list_early, list_next, list_past}
use Rattle.dp_net.proofs.NetSent.{runs_from}
use Rattle.dp_lean_epoch.specs.Own.{at_stage, Arrives, own_items}

module _ (m : Marks) (key : EpochKey) where
  abbrev k : Epoch
  k = epoch_of key

  open key use {program, plan, input}

  -- the memory before is the one from which the stage runs
  pub before_is : (s : ℕ) (before : List ℤ) (came : NetPacket) → (net_run_on m k s before came).before ≡ before
  before_is s before came = by came.status (net_run program plan m input s before came.lists)
    where
      by : (status : NetStatus) (turn : Option NetEnded) → (net_passed_on m k s before came turn status).before ≡ before
      by NetVoid turn = refl
      by NetGoing (Some e) = refl
      by NetGoing None = refl
      by NetClosing (Some e) = refl
      by NetClosing None = refl

  -- the turn of stage s + 1 at the n-th iteration
  abbrev pub turn_at : ℕ → ℕ → Option NetEnded
  turn_at s n = net_run program plan m input (suc s) (at_stage m key (suc s) n).before (at_stage m key s n).packet.lists

  pub ran : (s n : ℕ) → at_stage m key (suc s) n ≡ net_run_on m k (suc s) (at_stage m key (suc s) n).before (at_stage m key s n).packet
  ran s n =
      let run = runs_from m k (slice_get plan.stages s) (suc s) (at_stage m key s) n in
      let same : run.0 ≡ (at_stage m key (suc s) n).before =
      sym (before_is (suc s) run.0 (at_stage m key s n).packet) ∙ ap (λ (w : NetPassed). w.before) (sym run.1) in
      run.1 ∙ ap (λ (b : List ℤ). net_run_on m k (suc s) b (at_stage m key s n).packet) same

  -- on a packet that isn't void the stage passes on what its turn came to
  passed_so : (s : ℕ) (before : List ℤ) (came : NetPacket) (turn : Option NetEnded) → is_void came.status ≡ false →
      net_passed_on m k s before came turn came.status ≡ net_passed_by m k s before came turn
  passed_so s before came turn alive = by came.status refl
    where
      by : (status : NetStatus) → came.status ≡ status → net_passed_on m k s before came turn status ≡ net_passed_by m k s before came turn
      by NetGoing e = refl
      by NetClosing e = refl
      by NetVoid e = let clash : true ≡ false = sym (ap is_void e) ∙ alive in absurd (cc clash)

  pub passed_by_turn : (s n : ℕ) → Arrives m key s n → (turn : Option NetEnded) → turn_at s n ≡ turn →
      at_stage m key (suc s) n ≡ net_passed_by m k (suc s) (at_stage m key (suc s) n).before (at_stage m key s n).packet turn
  passed_by_turn s n alive turn e = ran s n
      ∙ ap (λ (t : Option NetEnded). net_passed_on m k (suc s) (at_stage m key (suc s) n).before (at_stage m key s n).packet t
      (at_stage m key s n).packet.status) e
      ∙ passed_so (suc s) (at_stage m key (suc s) n).before (at_stage m key s n).packet turn alive

  -- a void packet stays void
  pub void_stays : (s n : ℕ) → (at_stage m key s n).packet.status ≡ NetVoid → (at_stage m key (suc s) n).packet.status ≡ NetVoid
  void_stays s n e = ap (λ (w : NetPassed). w.packet.status) (ran s n)
      ∙ ap (λ (status : NetStatus). (net_passed_on m k (suc s) (at_stage m key (suc s) n).before (at_stage m key s n).packet
      (turn_at s n) status).packet.status) e ∙ e

  -- what isn't void came so, and its turn came to an end
  pub record Sent (s n : ℕ) : Type 0 where
    pub ended : NetEnded
    pub ends : turn_at s n ≡ Some ended
    pub came : Arrives m key s n
    pub lists : (at_stage m key (suc s) n).packet.lists ≡ (at_stage m key s n).packet.lists ++ ended.own ∷ []
    pub status : (at_stage m key (suc s) n).packet.status ≡ net_status_of (at_stage m key s n).packet.status ended.closing
    pub after : (at_stage m key (suc s) n).after ≡ ended.cells

  pub came_alive : (s n : ℕ) → Arrives m key (suc s) n → Arrives m key s n
  came_alive s n alive = by (at_stage m key s n).packet.status refl
    where
      by : (status : NetStatus) → (at_stage m key s n).packet.status ≡ status → is_void (at_stage m key s n).packet.status ≡ false
      by NetGoing e = ap is_void e
      by NetClosing e = ap is_void e
      by NetVoid e = let clash : true ≡ false = sym (ap is_void (void_stays s n e)) ∙ alive in absurd (cc clash)

  pub sent_so : (s n : ℕ) → Arrives m key (suc s) n → Sent s n
  sent_so s n alive = by (turn_at s n) refl
    where
      by : (turn : Option NetEnded) → turn_at s n ≡ turn → Sent s n
      by (Some e) is =
          let went = passed_by_turn s n (came_alive s n alive) (Some e) is in
          record {
            ended = e;
            ends = is;
            came = came_alive s n alive;
            lists = ap (λ (w : NetPassed). w.packet.lists) went;
            status = ap (λ (w : NetPassed). w.packet.status) went;
            after = ap (λ (w : NetPassed). w.after) went;
          }
      by None is =
          let went = passed_by_turn s n (came_alive s n alive) None is in
          let clash : true ≡ false = sym (ap (λ (w : NetPassed). is_void w.packet.status) went) ∙ alive in absurd (cc clash)

  -- one list for each stage
  pub sized : (s n : ℕ) → Arrives m key s n → length (at_stage m key s n).packet.lists ≡ s
  sized zero n alive = refl
  sized (suc s) n alive =
      let sent = sent_so s n alive in
      let before = sized s n sent.came in
      let more = length-append (at_stage m key s n).packet.lists (sent.ended.own ∷ []) in
      let is = ap length sent.lists in omega (arith, before, more, is)

  pub last_list : (lists : List (List Item)) (own : List Item) (s : ℕ) → length lists ≡ s → item_list (lists ++ own ∷ []) (suc s) ≡ own
  last_list lists own s e = ap (λ (t : ℕ). item_list (lists ++ own ∷ []) (suc t)) (sym e) ∙ list_next program plan m lists own

  -- the last list is the stage's own
  pub own_is : (s n : ℕ) (alive : Arrives m key (suc s) n) → own_items m key (suc s) n ≡ (sent_so s n alive).ended.own
  own_is s n alive =
      let sent = sent_so s n alive in
      ap (λ (ls : List (List Item)). item_list ls (suc s)) sent.lists
      ∙ last_list (at_stage m key s n).packet.lists sent.ended.own s (sized s n sent.came)

  pub lists_grow : (s n : ℕ) → Arrives m key (suc s) n →
      (at_stage m key (suc s) n).packet.lists ≡ (at_stage m key s n).packet.lists ++ own_items m key (suc s) n ∷ []
  lists_grow s n alive =
      let sent = sent_so s n alive in
      sent.lists ∙ ap (λ (is : List Item). (at_stage m key s n).packet.lists ++ is ∷ []) (sym (own_is s n alive))

  -- An earlier stage's list is what it told itself.
  pub list_is : (s n t : ℕ) → Arrives m key s n → t ≤ s → item_list (at_stage m key s n).packet.lists t ≡ own_items m key t n
  list_is s n zero alive low = refl
  list_is zero n (suc t) alive low = absurd (omega (arith, low))
  list_is (suc s) n (suc t) alive low = elim (cases_eq t s) [
    | inl same ↦ ap (λ (u : ℕ). item_list (at_stage m key (suc s) n).packet.lists (suc u)) same ∙ ap (λ (u : ℕ). own_items m key (suc u) n) (sym same)
    | inr other ↦
        let came = came_alive s n alive in
        let size = sized s n came in
        ap (λ (ls : List (List Item)). item_list ls (suc t)) (lists_grow s n alive)
        ∙ list_early program plan m (at_stage m key s n).packet.lists (own_items m key (suc s) n) (suc t) (omega arith) (omega (arith, low, other, size))
        ∙ list_is s n (suc t) came (omega (arith, low, other))
  ]

  pub list_none : (s n t : ℕ) → Arrives m key s n → s < t → item_list (at_stage m key s n).packet.lists t ≡ []
  list_none s n t alive past =
      let size = sized s n alive in list_past program plan m (at_stage m key s n).packet.lists t (omega (arith, past)) (omega (arith, past, size))

  -- what the stages up to s tell of a site is what its queue of the packet has
  pub upto_is : (s n y : ℕ) → Arrives m key s n → {X : Type 0} (read : List Item → List X) → read [] ≡ [] →
      (if nat_le (stage_of program plan y) s then read (own_items m key (stage_of program plan y) n) else [])
      ≡ read (item_list (at_stage m key s n).packet.lists (stage_of program plan y))
  upto_is s n y alive read none = by (nat_le (stage_of program plan y) s) refl
    where
      u : ℕ
      u = stage_of program plan y

      by : (b : Bool) → nat_le u s ≡ b → (if b then read (own_items m key u n) else []) ≡ read (item_list (at_stage m key s n).packet.lists u)
      by true e = ap read (sym (list_is s n u alive (leb-true u s e)))
      by false e = sym (ap read (list_none s n u alive past) ∙ none)
        where
          past : s < u
          past = elim (cases_lt s u) [
            | inl h ↦ h
            | inr h ↦ let clash : true ≡ false = sym (le-leb u s h) ∙ e in absurd (cc clash)
          ]
