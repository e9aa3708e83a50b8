-- The packets of an epoch whose iterations so far went in agreement with the plan.
use Rattle.dp_semantics.proofs.Names.{◌≡◌, inl, inr, refl, sym, ap, ◌∙◌, subst, ℕ, zero, suc, ◌+◌, ◌<◌, true, false, List, [], ◌∷◌, ◌++◌, ℤ, pos, length}
use Rattle.dp_semantics.proofs.Names.{get_or, length-append, Option, Some, slice_get, Ok, arith, slice_get_past, cases_order, both_ways, Word, Event, StageKind}
use Rattle.dp_semantics.proofs.Names.{Par, Plan, is_par, is_replicated, Past, pushed, word_list, TurnEnd, stage_run, Status, Packet, Passed, Epoch, status_of}
use Rattle.dp_semantics.proofs.Names.{passed_by, run_on, cleared, at_sequential, at_replicated, at_kind, passed, last}
use Rattle.dp_tree.specs.Iteration.{closes}
use Rattle.dp_semantics.proofs.Setting.{size, Fit, Before, fresh_start, went_on}
use Rattle.dp_semantics.proofs.PacketFacts.{live, status_for, status_next, status_live, word_list-early, word_list-last, passed_live, run_before, Left}
use Rattle.dp_semantics.proofs.PacketFacts.{left_live}
use Rattle.dp_theorem.proofs.Whole.{turn_of, stands_at_start, Fresh, Makes, TurnIs, TurnEnds, stage_whole, AllBefore, pushed_before, before_later, Cleared}
use Rattle.dp_theorem.proofs.Whole.{sees_next, sees_replicated, words_through, closing_after, stands_after}
use Rattle.dp_theorem.proofs.Stepping.{Sees, Stands}
use Rattle.dp_tree.proofs.InMain.{cleared_length}

last_sequential : (plan : Plan) → is_replicated plan (last plan) ≡ false
last_sequential plan = ap is_par (slice_get_past plan.stages (length plan.stages) (omega arith))

-- An epoch: its iterations in the source, the first being number `first` of the region.
pub record History (k : Epoch) : Type 0 where
  pub ok : Fit k
  pub clean_base : Cleared k.program k.plan k.base
  pub base_size : length k.base ≡ size k.program
  pub first : ℕ
  pub memory : ℕ → List ℤ
  pub events : ℕ → List Event
  pub starts : memory 0 ≡ k.base

abbrev pub numbered : ℕ → ℕ → ℕ
numbered e zero = e
numbered e (suc n) = suc (numbered e n)

abbrev pub past_at : ℕ → (ℕ → List Event) → ℕ → List Past
past_at e events zero = []
past_at e events (suc n) = pushed (numbered e n) (events n) (past_at e events n)

module _ {k : Epoch} (h : History k) where
  open k use {program, plan, input, base}
  open h use {ok, memory, events}

  abbrev number : ℕ → ℕ
  number n = numbered h.first n

  abbrev past : ℕ → List Past
  past n = past_at h.first events n

  -- the n-th iteration goes as the plan has it ..
  abbrev pub MakesAt : ℕ → Type 0
  MakesAt n = Makes ok (number n) (past n) (memory n) (events n)

  -- .. and the next one starts from its memory
  pub record GoneBy (n : ℕ) : Type 0 where
    pub makes : MakesAt n
    pub onward : memory (suc n) ≡ cleared k makes.then_cells
    pub going : closes (events n) ≡ false

  abbrev pub Gone : ℕ → Type 0
  Gone n = (m : ℕ) → m < n → GoneBy m

  -- the source where the n-th iteration starts
  pub record Ready (n : ℕ) : Type 0 where
    pub before : AllBefore (number n) (past n)
    pub at : Stands k (number n) (turn_of ok.accepted) (past n) (memory n)
    pub chain : Before program input plan.region (turn_of ok.accepted) (number n) (past n) (memory n)

  before_next : (n : ℕ) → Ready n → AllBefore (suc (number n)) (past (suc n))
  before_next n r = pushed_before (number n) (events n) (past n) (before_later (number n) (past n) r.before)

  ready_next : (n : ℕ) → Ready n → GoneBy n → Ready (suc n)
  ready_next n r gone = record {
    before = before_next n r;
    at = stands_at_start ok (number (suc n)) (past (suc n)) (memory (suc n)) after.known
        (subst (λ (cells : List ℤ). Sees k (last plan) (number (suc n)) (past (suc n)) cells) (sym gone.onward)
        (sees_next k (last plan) (number n) (past (suc n)) gone.makes.then_cells (last_sequential plan) h.clean_base (before_next n r) after.sees))
        (ap length gone.onward ∙ cleared_length plan.region program.vars gone.makes.then_cells ∙ after.size_is) chained;
    chain = chained;
  }
    where
      after : Stands k (number n) [] (past (suc n)) gone.makes.then_cells
      after = stands_after ok r.at gone.makes.path

      chained : Before program input plan.region (turn_of ok.accepted) (number (suc n)) (past (suc n)) (memory (suc n))
      chained = went_on r.chain gone.makes.path gone.going r.at.size_is refl gone.onward

  pub ready : (n : ℕ) → Gone n → Ready n
  ready zero g = record {
    before = tt;
    at = stands_at_start ok (number 0) [] (memory 0) tt (λ c. ap (λ (cells : List ℤ). get_or cells c (pos 0)) h.starts) (ap
        length h.starts ∙ h.base_size) fresh_start;
    chain = fresh_start;
  }
  ready (suc n) g = ready_next n (ready n (λ m l. g m (omega (arith, l)))) (g n (omega arith))

  abbrev FreshAt : ℕ → ℕ → List ℤ → Type 0
  FreshAt s n cells = Fresh ok (number n) (past n) s cells

  -- the packet has the words of the source's events, of each stage up to this one
  pub record Sent (s n : ℕ) (packet : Packet) : Type 0 where
    pub count : length packet.lists ≡ s
    pub words : (t : ℕ) → 0 < t → t < suc s → word_list packet.lists t ≡ words_through program plan t (events n)
    pub status : packet.status ≡ status_for s (closing_after program plan false (events n))

  -- a stage's memory after the iteration
  abbrev After : ℕ → ℕ → List ℤ → Type 0
  After s n cells = Fresh ok (number n) (past (suc n)) s cells

  -- the turns of the stages up to s came to their ends, and these are their words
  pub record Ends (s n : ℕ) (lists : List (List Word)) : Type 0 where
    pub count : length lists ≡ s
    pub turns : (u : ℕ) → 0 < u → u < suc s → TurnEnds ok (number n) (past n) u (word_list lists)

  -- What holds of stage s at the n-th iteration: it starts from what it sees, of an iteration that agrees it sends the words,
  -- and where its packet isn't void, the turns so far came to their ends.
  pub record Claim (s n : ℕ) (q : Passed) : Type 0 where
    pub fresh : 0 < s → FreshAt s n q.before
    pub sent : MakesAt n → Sent s n q.packet
    pub after : MakesAt n → 0 < s → After s n q.after
    pub ends : live q.packet.status ≡ true → Ends s n q.packet.lists

  module _ (s n : ℕ) (high : suc s < last plan) (r : Ready n) (before : List ℤ) (fresh : FreshAt (suc s) n before) (came : Packet) where
    abbrev turn : TurnEnd
    turn = stage_run program plan input (suc s) before came.lists

    record SentAt (q : Passed) : Type 0 where
      pub sent : Sent (suc s) n q.packet
      pub after : After (suc s) n q.after

    sent_on : MakesAt n → Sent s n came → SentAt (run_on k (suc s) before came)
    sent_on makes sent = subst (λ (q : Passed). SentAt q) (sym made) (record {
      sent = record {
        count = length-append came.lists (words_through program plan (suc s) (events n) ∷ []) ∙ added;
        words = λ t low up. elim (cases_order t (suc s)) [
          | inl e ↦ word_list-last came.lists (words_through program plan (suc s) (events n)) t (omega (arith, e, sent.count))
              ∙ ap (λ (u : ℕ). words_through program plan u (events n)) (sym e)
          | inr (inl e) ↦ word_list-early came.lists (words_through program plan (suc s) (events n)) t low (omega (arith, e, sent.count)) ∙ sent.words t low e
          | inr (inr e) ↦ absurd (omega (arith, up, e))
        ];
        status = ap (λ (status : Status). status_of status (closing_after program plan false (events n))) sent.status
            ∙ status_next s (closing_after program plan false (events n));
      };
      after = record { sees = whole.sees; size_is = whole.size_is };
    })
      where
        added : length came.lists + length (words_through program plan (suc s) (events n) ∷ []) ≡ suc s
        added = omega (arith, sent.count)

        whole : TurnIs ok (number n) (past n) (suc s) (events n) turn
        whole = stage_whole ok (number n) (past n) (memory n) r.at (suc s) (omega arith) high (events n) makes before fresh came.lists
            (λ t low up. sent.words t low (omega (arith, up))) (omega (arith, sent.count))

        made : run_on k (suc s) before came ≡ passed_by k (suc s) before came
            (Ok (record {
              own = words_through program plan (suc s) (events
                  n);
              cells = whole.then_cells;
              closing = closing_after program plan false (events n);
            }))
        made = passed_live k (suc s) before came turn came.status (ap live sent.status ∙ status_live s (closing_after program plan false (events n)))
            ∙ ap (passed_by k (suc s) before came) whole.is

    ends_on : (live came.status ≡ true → Ends s n came.lists) → live (run_on k (suc s) before came).packet.status ≡ true →
        Ends (suc s) n (run_on k (suc s) before came).packet.lists
    ends_on earlier alive = subst (λ (lists : List (List Word)). Ends (suc s) n lists) (sym left.lists) (record {
      count = length-append came.lists (left.ended.own ∷ []) ∙ added;
      turns = by_turn;
    })
      where
        left : Left k (suc s) before came turn (run_on k (suc s) before came).packet
        left = left_live k (suc s) before came turn alive

        so_far : Ends s n came.lists
        so_far = earlier left.alive

        added : length came.lists + length (left.ended.own ∷ []) ≡ suc s
        added = omega (arith, so_far.count)

        old : (t : ℕ) → 0 < t → t < suc s → word_list came.lists t ≡ word_list (came.lists ++ left.ended.own ∷ []) t
        old t low up = sym (word_list-early came.lists left.ended.own t low (omega (arith, up, so_far.count)))

        by_turn : (u : ℕ) → 0 < u → u < suc (suc s) → TurnEnds ok (number n) (past n) u (word_list (came.lists ++ left.ended.own ∷ []))
        by_turn u low up = elim (cases_order u (suc s)) [
          | inl e ↦ rw e (record {
            mine = before;
            lists = came.lists;
            ended = left.ended;
            fresh = fresh;
            are = old;
            wide = omega (arith, so_far.count);
            ends = left.ends;
            words_are = sym (word_list-last came.lists left.ended.own (suc s) (omega (arith, so_far.count)));
          })
          | inr (inl e) ↦ let q = so_far.turns u low e in record {
            mine = q.mine;
            lists = q.lists;
            ended = q.ended;
            fresh = q.fresh;
            are = λ t one two. q.are t one two ∙ old t one (omega (arith, two, e));
            wide = q.wide;
            ends = q.ends;
            words_are = q.words_are ∙ old u low e;
          }
          | inr (inr e) ↦ absurd (omega (arith, up, e))
        ]

    ran : (MakesAt n → Sent s n came) → (live came.status ≡ true → Ends s n came.lists) → Claim (suc s) n (run_on k (suc s) before came)
    ran sent ends = record {
      fresh = λ real. subst (λ (cells : List ℤ). FreshAt (suc s) n cells) (sym (run_before k (suc s) before came)) fresh;
      sent = λ makes. (sent_on makes (sent makes)).sent;
      after = λ makes real. (sent_on makes (sent makes)).after;
      ends = λ alive. ends_on ends alive;
    }

  module _ (s : ℕ) (high : suc s < last plan) (came : ℕ → Passed) (claims : (n : ℕ) → Gone n → Claim s n (came n)) where
    sequential : is_replicated plan (suc s) ≡ false → (n : ℕ) → Gone n → Claim (suc s) n (at_sequential k (suc s) came n)
    sequential seq zero g =
        ran s 0 high (ready 0 g) base (record { sees = λ c. refl; size_is = h.base_size }) (came 0).packet (claims 0 g).sent (claims 0 g).ends
    sequential seq (suc n) g =
        let fewer : Gone n = λ m l. g m (omega (arith, l)) in
        let was = (sequential seq n fewer).after (g n (omega arith)).makes (omega arith) in
        ran s (suc n) high (ready (suc n) g) (cleared k (at_sequential k (suc s) came n).after)
        (record {
          sees = sees_next k (suc s) (number n) (past (suc n)) (at_sequential k (suc s) came n).after seq h.clean_base (before_next n (ready n fewer)) was.sees;
          size_is = cleared_length plan.region program.vars (at_sequential k (suc s) came n).after ∙ was.size_is;
        })
        (came (suc n)).packet (claims (suc n) g).sent (claims (suc n) g).ends

    replicated : is_replicated plan (suc s) ≡ true → (n : ℕ) → Gone n → Claim (suc s) n (at_replicated k (suc s) came n)
    replicated rep n g =
        let was = (claims n g).fresh (not_first s rep) in
        ran s n high (ready n g) (came n).before
        (record {
          sees = sees_replicated k s (number n) (past n) (came n).before (ok.accepted.apart s rep) rep (ready n
              g).before was.sees;
          size_is = was.size_is;
        })
        (came n).packet (claims n g).sent (claims n g).ends
      where
        not_first : (s : ℕ) → is_replicated plan (suc s) ≡ true → 0 < s
        not_first zero rep = absurd (both_ways (is_replicated plan 1) ok.accepted.sequential rep)
        not_first (suc s) rep = omega arith

    by_kind : (kind : Option StageKind) → slice_get plan.stages s ≡ kind → (n : ℕ) → Gone n → Claim (suc s) n (at_kind kind k (suc s) came n)
    by_kind (Some Par) is = replicated (ap is_par is)
    by_kind _ is = sequential (ap is_par is)

  pub claims_at : (s : ℕ) → s < last plan → (n : ℕ) → Gone n → Claim s n (passed k s n)
  claims_at zero high n g = record {
    fresh = λ real. absurd (omega (arith, real));
    sent = λ makes. record { count = refl; words = λ t low up. absurd (omega (arith, low, up)); status = refl };
    after = λ makes real. absurd (omega (arith, real));
    ends = λ alive. record { count = refl; turns = λ u low up. absurd (omega (arith, low, up)) };
  }
  claims_at (suc s) high n g = by_kind s high (passed k s) (claims_at s (omega (arith, high))) (slice_get plan.stages s) refl n g
