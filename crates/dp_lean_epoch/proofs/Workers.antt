-- A worker goes on with its own memory, where its stage doesn't load what it stores there itself.
use Rattle.dp_semantics.proofs.Names.{◌≡◌, refl, sym, ap, ◌∙◌, subst, arith, ℕ, zero, suc, Bool, true, false, List, [], ◌∷◌, ◌++◌, ℤ, length, slice_get, Option}
use Rattle.dp_semantics.proofs.Names.{Some, None, Ok, Err, Stmt, StageKind, Par, Seq, is_par, is_replicated, Status, Going, Closing, Broken, Packet, Passed}
use Rattle.dp_semantics.proofs.Names.{passed_on, Epoch, cleared, TurnEnd, Ended, length-append}
use Rattle.dp_semantics.specs.EpochKey.{EpochKey, epoch_of}
use Rattle.dp_semantics.proofs.Setting.{Accepted}
use Rattle.dp_net.specs.NetItems.{Marks}
use Rattle.dp_net.specs.NetPackets.{NetStatus}
use Rattle.dp_net.specs.Follows.{is_void}
use Rattle.dp_net.proofs.Sent.{Quieted, SameStatus, both_going, both_closing, both_broken, sent_alike}
use Rattle.dp_net.proofs.Strict.{strict_run, strict_run_on, strict_kind, strict_sequential, strict_passed}
use Rattle.dp_lean_epoch.specs.Own.{at_stage, Arrives}
use Rattle.dp_lean_epoch.proofs.Arriving.{came_alive}

module _ (key : EpochKey) (ok : Accepted key.program key.plan) {m : Marks} {test : Stmt → Bool} (q : Quieted (epoch_of key) m test) where
  open key use {program, plan, input}

  abbrev k : Epoch
  k = epoch_of key

  -- whether a packet of words is void
  abbrev is_broken : Status → Bool
  is_broken Going = false
  is_broken Closing = false
  is_broken (Broken s why) = true

  status_broken : (a : Status) (b : NetStatus) → SameStatus a b → is_broken a ≡ is_void b
  status_broken a b both_going = refl
  status_broken a b both_closing = refl
  status_broken a b (both_broken s why) = refl

  not_broken : (s n : ℕ) → Arrives m key s n → is_broken (strict_passed k s n).packet.status ≡ false
  not_broken s n alive =
      let sent = sent_alike q s n in
      status_broken (strict_passed k s n).packet.status (at_stage m key s n).packet.status sent.packet.status ∙ alive

  -- what leaves a stage and isn't void
  pub record Ran (s : ℕ) (before : List ℤ) (came : Packet) (w : Passed) : Type 0 where
    pub ended : Ended
    pub ends : strict_run program plan input s before came.lists ≡ Ok ended
    pub lists : w.packet.lists ≡ came.lists ++ ended.own ∷ []
    pub after : w.after ≡ ended.cells

  ran_so : (s : ℕ) (before : List ℤ) (came : Packet) → is_broken (strict_run_on k s before came).packet.status ≡ false →
      Ran s before came (strict_run_on k s before came)
  ran_so s before came = by came.status refl (strict_run program plan input s before came.lists) refl
    where
      by : (status : Status) → came.status ≡ status → (turn : TurnEnd) → strict_run program plan input s before came.lists ≡ turn →
          is_broken (passed_on k s before came turn status).packet.status ≡ false → Ran s before came (passed_on k s before came turn status)
      by (Broken t why) is turn e alive = let clash : true ≡ false = sym (ap is_broken is) ∙ alive in absurd (cc clash)
      by Going is (Ok f) e alive = record { ended = f; ends = e; lists = refl; after = refl }
      by Closing is (Ok f) e alive = record { ended = f; ends = e; lists = refl; after = refl }
      by Going is (Err why) e alive = absurd (cc alive)
      by Closing is (Err why) e alive = absurd (cc alive)

  strict_before : (s : ℕ) (before : List ℤ) (came : Packet) → (strict_run_on k s before came).before ≡ before
  strict_before s before came = by came.status (strict_run program plan input s before came.lists)
    where
      by : (status : Status) (turn : TurnEnd) → (passed_on k s before came turn status).before ≡ before
      by (Broken t why) turn = refl
      by Going (Ok f) = refl
      by Going (Err why) = refl
      by Closing (Ok f) = refl
      by Closing (Err why) = refl

  -- a stage of this kind runs from the memory that it has before
  abbrev Runs : ℕ → Option StageKind → ℕ → Type 0
  Runs s kind n = strict_kind k kind (suc s) (strict_passed k s) n
      ≡ strict_run_on k (suc s) (strict_kind k kind (suc s) (strict_passed k s) n).before (strict_passed k s n).packet

  runs_so : (s n : ℕ) → strict_passed k (suc s) n ≡ strict_run_on k (suc s) (strict_passed k (suc s) n).before (strict_passed k s n).packet
  runs_so s n = by (slice_get plan.stages s) n
    where
      from : (before : List ℤ) (n : ℕ) → strict_run_on k (suc s) before (strict_passed k s n).packet
          ≡ strict_run_on k (suc s) (strict_run_on k (suc s) before (strict_passed k s n).packet).before (strict_passed k s n).packet
      from before n = ap (λ (b : List ℤ). strict_run_on k (suc s) b (strict_passed k s n).packet)
          (sym (strict_before (suc s) before (strict_passed k s n).packet))

      by : (kind : Option StageKind) (n : ℕ) → Runs s kind n
      by (Some Par) n = from (strict_passed k s n).before n
      by (Some Seq) zero = from k.base zero
      by (Some Seq) (suc n) = from (cleared k (strict_sequential k (suc s) (strict_passed k s) n).after) (suc n)
      by None zero = from k.base zero
      by None (suc n) = from (cleared k (strict_sequential k (suc s) (strict_passed k s) n).after) (suc n)

  pub ran_at : (s n : ℕ) → Arrives m key (suc s) n → Ran (suc s) (strict_passed k (suc s) n).before (strict_passed k s n).packet (strict_passed k (suc s) n)
  ran_at s n alive = subst (λ (w : Passed). Ran (suc s) (strict_passed k (suc s) n).before (strict_passed k s n).packet w) (sym (runs_so s n))
      (ran_so (suc s) (strict_passed k (suc s) n).before (strict_passed k s n).packet
      (ap (λ (w : Passed). is_broken w.packet.status) (sym (runs_so s n)) ∙ not_broken (suc s) n alive))

  -- one list of words for each stage
  pub sized : (s n : ℕ) → Arrives m key s n → length (strict_passed k s n).packet.lists ≡ s
  sized zero n alive = refl
  sized (suc s) n alive =
      let ran = ran_at s n alive in
      let size = sized s n (came_alive m key s n alive) in
      let more = length-append (strict_passed k s n).packet.lists (ran.ended.own ∷ []) in
      let is = ap length ran.lists in omega (arith, size, more, is)

  -- a worker has the memory of the stage before it
  pub worker_before : (s n : ℕ) → is_replicated plan (suc s) ≡ true → (strict_passed k (suc s) n).before ≡ (strict_passed k s n).before
  worker_before s n workers = by (slice_get plan.stages s) workers
    where
      by : (kind : Option StageKind) → is_par kind ≡ true → (strict_kind k kind (suc s) (strict_passed k s) n).before ≡ (strict_passed k s n).before
      by (Some Par) e = strict_before (suc s) (strict_passed k s n).before (strict_passed k s n).packet
      by (Some Seq) e = absurd (cc e)
      by None e = absurd (cc e)
