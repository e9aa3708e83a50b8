-- What is known of the stages' turns on a packet that is judged clean.
use Rattle.dp_semantics.proofs.Names.{◌≡◌, refl, sym, ap, ◌∙◌, subst, append_assoc, append-nil, ℕ, zero, suc, ◌+◌, ◌-◌, ◌<◌, ◌≤◌, Bool, true, false, List, []}
use Rattle.dp_semantics.proofs.Names.{◌∷◌, ◌++◌, ℤ, length, length-append, get_or, get_or_append_left, get_or-append_seam, Option, Some, None, Ok, arith}
use Rattle.dp_semantics.proofs.Names.{slice_get, sum_by, Stmt, Word, word_list, Turn, TurnEnd, Ended, stage_run, StageKind, Par, Seq, Status, Going, Closing}
use Rattle.dp_semantics.proofs.Names.{Broken, Packet, Passed, passed, passed_on, run_on, at_kind, at_sequential, Epoch, cleared, status_of, Judgement, Agreed}
use Rattle.dp_semantics.proofs.Names.{Clean, Unclean, judge, judge_lists, judge_status, last, project_all}
unfoldable use Rattle.dp_semantics.proofs.Names.{turn_from, judge_from}
use Rattle.dp_semantics.proofs.PacketFacts.{live, Left, left_live}
use Rattle.dp_semantics.proofs.Setting.{Accepted, turn_of}
use Rattle.dp_semantics.proofs.Taking.{word_list_is}
use Rattle.dp_theorem.proofs.Whole.{turn_well, turn_sound}
use Rattle.dp_net.proofs.Strict.{strict_run_on}
unfoldable use Rattle.dp_net.proofs.Strict.{strict_from}
use Rattle.dp_net.proofs.Projections.{turn_text}
use Rattle.dp_net.proofs.Unassumed.{kept_in, Facing}

-- Lists behind others.
list_early : (a b : List (List Word)) (t : ℕ) → 0 < t → t ≤ length a → word_list (a ++ b) t ≡ word_list a t
list_early a b t low high = word_list_is (a ++ b) t low ∙ get_or_append_left a b [] (t - 1) (omega (arith, low, high)) ∙ sym (word_list_is a t low)

list_next : (a b : List (List Word)) (words : List Word) → word_list (a ++ words ∷ b) (suc (length a)) ≡ words
list_next a b words =
    let place : suc (length a) - 1 ≡ length a = omega arith in
    word_list_is (a ++ words ∷ b) (suc (length a)) (omega arith) ∙ ap (λ (n : ℕ). get_or (a ++ words ∷ b) n []) place ∙ get_or-append_seam a words b []

pub not_live : (status : Status) (j : Judgement) → live status ≡ false → judge_status j status ≡ Unclean
not_live (Broken s why) j e = refl
not_live Going j e = absurd (cc e)
not_live Closing j e = absurd (cc e)

live_clean : (status : Status) (j : Judgement) (v : Agreed) → judge_status j status ≡ Clean v → (live status ≡ true) × (j ≡ Clean v)
live_clean (Broken s why) j v e = absurd (cc e)
live_clean Going j v e = (refl, e)
live_clean Closing j v e = (refl, e)

module _ (k : Epoch) where
  open k use {program, plan, input}

  -- a stage runs from some memory on what comes to it
  runs_from : (kind : Option StageKind) (s : ℕ) (came : ℕ → Passed) (n : ℕ) → (before : List ℤ) × (at_kind kind k s came n ≡ run_on k s before (came n).packet)
  runs_from (Some Par) s came n = ((came n).before, refl)
  runs_from (Some Seq) s came zero = (k.base, refl)
  runs_from (Some Seq) s came (suc n) = (cleared k (at_sequential k s came n).after, refl)
  runs_from None s came zero = (k.base, refl)
  runs_from None s came (suc n) = (cleared k (at_sequential k s came n).after, refl)

  passed_runs : (s n : ℕ) → (before : List ℤ) × (passed k (suc s) n ≡ run_on k (suc s) before (passed k s n).packet)
  passed_runs s n = runs_from (slice_get plan.stages s) (suc s) (passed k s) n

  -- what a stage sent that isn't void is a front of what the last one sends
  record Front (s n : ℕ) : Type 0 where
    later : List (List Word)
    final : (passed k (length plan.stages) n).packet.lists ≡ (passed k s n).packet.lists ++ later
    alive : live (passed k s n).packet.status ≡ true

  left_at : (s n : ℕ) (before : List ℤ) → passed k (suc s) n ≡ run_on k (suc s) before (passed k s n).packet → live (passed k (suc s) n).packet.status ≡ true →
      Left k (suc s) before (passed k s n).packet (stage_run program plan input (suc s) before (passed k s n).packet.lists)
      (run_on k (suc s) before (passed k s n).packet).packet
  left_at s n before is alive = left_live k (suc s) before (passed k s n).packet (stage_run program plan input (suc s) before (passed k s n).packet.lists)
      (ap (λ (w : Passed). live w.packet.status) (sym is) ∙ alive)

  front_before : (s n : ℕ) → Front (suc s) n → Front s n
  front_before s n f =
      let run = passed_runs s n in
      let left = left_at s n run.0 run.1 f.alive in
      record {
        later = left.ended.own ∷ f.later;
        final = f.final ∙ ap (λ (ls : List (List Word)). ls ++ f.later) (ap (λ (w : Passed). w.packet.lists) run.1 ∙ left.lists)
            ∙ append_assoc (passed k s n).packet.lists (left.ended.own ∷ []) f.later;
        alive = left.alive;
      }

  fronts : (n d s : ℕ) → s + d ≡ length plan.stages → Front (length plan.stages) n → Front s n
  fronts n zero s e f = let same : length plan.stages ≡ s = omega (arith, e) in subst (λ (t : ℕ). Front t n) same f
  fronts n (suc d) s e f = front_before s n (fronts n d (suc s) (omega (arith, e)) f)

  -- each stage adds one list
  lists_are : (s n : ℕ) → live (passed k s n).packet.status ≡ true → length (passed k s n).packet.lists ≡ s
  lists_are zero n alive = refl
  lists_are (suc s) n alive =
      let run = passed_runs s n in
      let left = left_at s n run.0 run.1 alive in
      let more = length-append (passed k s n).packet.lists (left.ended.own ∷ []) in
      let before = lists_are s n left.alive in
      let is = ap length (ap (λ (w : Passed). w.packet.lists) run.1 ∙ left.lists) in
      omega (arith, is, more, before)

  module _ (ok : Accepted program plan) where
    -- what is known of a stage's turn on a packet that is judged clean
    pub record TurnKept (s : ℕ) (before : List ℤ) (came : Packet) (v : Agreed) : Type 0 where
      pub same : strict_run_on k (suc s) before came ≡ run_on k (suc s) before came
      pub ended : Ended
      pub ends : stage_run program plan input (suc s) before came.lists ≡ Ok ended
      pub alive : live came.status ≡ true
      pub closes : ended.closing ≡ true → v.closing ≡ true

    -- Where a packet is judged clean, each stage's turn on it is the one that would break off.
    module _ (n left : ℕ) (cells : List ℤ) (v : Agreed) (clean : judge program plan left cells (passed k (length plan.stages) n).packet ≡ Clean v) where
      abbrev final : Packet
      final = (passed k (length plan.stages) n).packet

      judged : (live final.status ≡ true) × (judge_lists program plan left cells final.lists ≡ Clean v)
      judged = live_clean final.status (judge_lists program plan left cells final.lists) v clean

      at_end : Front (length plan.stages) n
      at_end = record { later = []; final = sym (append-nil final.lists); alive = judged.0 }

      judged_text : judge_from program plan left
          (record {
            turn = record { to_do = project_all program plan (last plan) (turn_of ok); cells = cells; lists = final.lists; own = []; closing = false };
            effects = [];
            sites = [];
          }) ≡ Clean v
      judged_text =
          ap (λ (xs : List Stmt). judge_from program plan left
          (record { turn = record { to_do = xs; cells = cells; lists = final.lists; own = []; closing = false }; effects = []; sites = [] }))
          (sym (turn_text ok (last plan) (omega arith)))
          ∙ judged.1

      pub turn_kept : (s : ℕ) → s < length plan.stages → (before : List ℤ) → passed k (suc s) n ≡ run_on k (suc s) before (passed k s n).packet →
          TurnKept s before (passed k s n).packet v
      turn_kept s high before is = record {
        same = ap (λ (turn : TurnEnd). passed_on k (suc s) before came turn came.status)
            (ap (λ (xs : List Stmt). strict_from program plan input (suc s) bound (begun xs)) (turn_text ok (suc s) (omega arith)) ∙ kept.0
            ∙ sym left_here.ends);
        ended = left_here.ended;
        ends = left_here.ends;
        alive = left_here.alive;
        closes = kept.1;
      }
        where
          came : Packet
          came = (passed k s n).packet

          begun : List Stmt → Turn
          begun xs = record { to_do = xs; cells = before; lists = came.lists; own = []; closing = false }

          bound : ℕ
          bound = plan.words + sum_by length came.lists + 1

          behind : Front (suc s) n
          behind = fronts n (length plan.stages - suc s) (suc s) (omega (arith, high)) at_end

          left_here : Left k (suc s) before came (stage_run program plan input (suc s) before came.lists) (run_on k (suc s) before came).packet
          left_here = left_at s n before is behind.alive

          lists_before : length came.lists ≡ s
          lists_before = lists_are s n left_here.alive

          final_is : final.lists ≡ came.lists ++ left_here.ended.own ∷ behind.later
          final_is = behind.final ∙ ap (λ (ls : List (List Word)). ls ++ behind.later) (ap (λ (w : Passed). w.packet.lists) is ∙ left_here.lists)
              ∙ append_assoc came.lists (left_here.ended.own ∷ []) behind.later

          facing : Facing program plan input (suc s) (omega arith) (omega (arith, high)) came.lists final.lists [] left_here.ended.own
          facing = record {
            wide = omega (arith, lists_before);
            judged_wide = let e = lists_are (length plan.stages) n judged.0 in omega (arith, e);
            same = λ t low less. sym (ap (λ (ls : List (List Word)). word_list ls t) final_is
                ∙ list_early came.lists (left_here.ended.own ∷ behind.later) t low (omega (arith, less, lists_before)));
            made_is = sym (ap (λ (ls : List (List Word)). word_list ls (suc s)) final_is
                ∙ ap (λ (t : ℕ). word_list (came.lists ++ left_here.ended.own ∷ behind.later) (suc t)) (sym lists_before)
                ∙ list_next came.lists behind.later left_here.ended.own);
          }

          kept : (strict_from program plan input (suc s) bound (begun (project_all program plan (suc s) (turn_of ok))) ≡ Ok left_here.ended)
              × (left_here.ended.closing ≡ true → v.closing ≡ true)
          kept =
              kept_in program plan input (suc s) (omega arith) (omega (arith, high)) left bound (turn_of ok)
              (record { well = turn_well ok; sound = turn_sound ok }) before came.lists [] false cells final.lists [] false [] [] left_here.ended v facing
              (ap (λ (xs : List Stmt). turn_from program plan input (suc s) bound (begun xs)) (sym (turn_text ok (suc s) (omega arith)))
              ∙ left_here.ends) (λ shut. absurd (cc shut)) judged_text

      status_then : (s : ℕ) (before : List ℤ) (came : Packet) (e : Ended) (status : Status) → live status ≡ true →
          (passed_on k s before came (Ok e) status).packet.status ≡ status_of came.status e.closing
      status_then s before came e Going alive = refl
      status_then s before came e Closing alive = refl
      status_then s before came e (Broken t why) alive = absurd (cc alive)

      -- A packet that closes is judged to leave the region.
      pub closing_left : (s : ℕ) → s ≤ length plan.stages → (passed k s n).packet.status ≡ Closing → v.closing ≡ true
      closing_left zero high e = absurd (cc e)
      closing_left (suc s) high e = by (passed k s n).packet.status refl kept.ended.closing refl (sym status_is ∙ e) (closing_left s (omega (arith, high)))
        where
          run : (before : List ℤ) × (passed k (suc s) n ≡ run_on k (suc s) before (passed k s n).packet)
          run = passed_runs s n

          kept : TurnKept s run.0 (passed k s n).packet v
          kept = turn_kept s (omega (arith, high)) run.0 run.1

          status_is : (passed k (suc s) n).packet.status ≡ status_of (passed k s n).packet.status kept.ended.closing
          status_is = ap (λ (w : Passed). w.packet.status) run.1
              ∙ ap (λ (turn : TurnEnd). (passed_on k (suc s) run.0 (passed k s n).packet turn (passed k s n).packet.status).packet.status) kept.ends
              ∙ status_then (suc s) run.0 (passed k s n).packet kept.ended (passed k s n).packet.status kept.alive

          by : (status : Status) → (passed k s n).packet.status ≡ status → (c : Bool) → kept.ended.closing ≡ c →
              status_of (passed k s n).packet.status kept.ended.closing ≡ Closing → ((passed k s n).packet.status ≡ Closing → v.closing ≡ true) →
              v.closing ≡ true
          by Closing is c at e before = before is
          by Going is true at e before = kept.closes at
          by Going is false at e before = let clash : Going ≡ Closing = rw (is, at) at e in absurd (cc clash)
          by (Broken t why) is c at e before = let clash : Broken t why ≡ Closing = rw is at e in absurd (cc clash)
