-- In an epoch of its own the walk finds the cause of the first iteration that isn't clean.
use Rattle.dp_semantics.proofs.Names.{◌≡◌, refl, sym, ap, ◌∙◌, subst, ℕ, zero, suc, ◌+◌, ◌-◌, ◌<◌, Bool, true, false, not, if◌then◌else◌, List, [], ◌∷◌, ◌++◌}
use Rattle.dp_semantics.proofs.Names.{ℤ, length, map, length-map, length-replicate, replicate, not-true, Option, Some, arith, eq-eqb, and_parts, both_ways}
use Rattle.dp_semantics.proofs.Names.{cases_Bool, cases_lt, inl, inr, Stmt, out-Stmt, Program, Plan, Config, Event, stored, stage_of, nat_le, clear_locals}
use Rattle.dp_semantics.proofs.Names.{standing, run_of, Run, is_free, is_region, start, iteration, is_closing, has_ended, memory_after, memory_from, cells_in}
use Rattle.dp_semantics.proofs.Names.{is_replicated, StageKind, Seq, Par, is_par, slice_get, is_clean, passed, Judgement, Agreed, Clean, Unclean, judge}
use Rattle.dp_semantics.proofs.Names.{effect_in, site_in, CleanSince, Judged, Follows, applied, StandsInMain}
use Rattle.dp_semantics.specs.Cause.{cause_since}
use Rattle.dp_semantics.specs.Verdict.{judgement_at, done_in}
use Rattle.dp_semantics.specs.EpochKey.{EpochKey, epoch_run, epoch_begin, statements_from}
use Rattle.dp_semantics.specs.EpochVerdicts.{JudgeState, state_at, judgement_in, judgement_of, after_judgement, verdict_at, verdict_by, goes_on}
use Rattle.dp_semantics.specs.CauseWalk.{Watch, shown_from, watched, watched_all, no_words, next_from, next_watch, cause_walk}
use Rattle.dp_semantics.specs.FindsCauses.{turn_text, watch_before}
use Rattle.dp_semantics.specs.EpochCauses.{first_kept, kept_after, next_kept, views_from, watch_of, kept_at, found_in, IsSound, FindsInEpochs}
use Rattle.dp_semantics.proofs.Setting.{Accepted, all_free}
use Rattle.dp_theorem.proofs.Placed.{not_at_head, behind, run_first}
use Rattle.dp_theorem.proofs.Turns.{start_at, standing_is, starts_at_once}
use Rattle.dp_theorem.proofs.Central.{fuel_is, judges_rightly, stores_lead}
use Rattle.dp_theorem.proofs.Watching.{counted-length}
use Rattle.dp_theorem.proofs.CauseFound.{finds_causes}

-- ---- what is kept, against the memories that the stages see

module _ (p : Program) (plan : Plan) where
  -- each sequential stage from s on has its memory kept
  abbrev Keeps : ℕ → List (List ℤ) → List (List ℤ) → Type 0
  Keeps s [] [] = Unit {0}
  Keeps s [] (view ∷ views) = ⊥
  Keeps s (own ∷ kept) [] = ⊥
  Keeps s (own ∷ kept) (view ∷ views) = (is_replicated plan s ≡ false → own ≡ view) × Keeps (suc s) kept views

  keeps_views : (s : ℕ) (before : List ℤ) (kept : List (List ℤ)) → Keeps s kept (views_from plan s before kept)
  keeps_views s before [] = tt
  keeps_views s before (own ∷ rest) =
      (λ seq. sym (ap (λ (b : Bool). if b then before else own) seq), keeps_views (suc s) (if is_replicated plan s then before else own) rest)

  -- .. after an event
  keeps_shown : (s : ℕ) (event : Event) (kept views : List (List ℤ)) → Keeps s kept views →
      Keeps s (shown_from p plan (record { site = event.site; loads = []; effect = event.effect }) s kept) (shown_from p plan event s views)
  keeps_shown s event [] [] k = tt
  keeps_shown s event [] (view ∷ views) k = k
  keeps_shown s event (own ∷ kept) [] k = k
  keeps_shown s event (own ∷ kept) (view ∷ views) k = (
    λ seq. ap (λ (cells : List ℤ). if nat_le (stage_of p plan event.site) s then stored event.effect cells else cells) (k.0 seq),
    keeps_shown (suc
        s) event kept views k.1,
  )

  keeps_all : (events : List Event) (kept : List (List ℤ)) (w : Watch) → Keeps 1 kept w.views →
      Keeps 1 (kept_after p plan (map site_in events) (map effect_in events) kept) (watched_all p plan events w).views
  keeps_all [] kept w k = k
  keeps_all (event ∷ rest) kept w k =
      keeps_all rest (shown_from p plan (record { site = event.site; loads = []; effect = event.effect }) 1 kept) (watched p plan event w)
      (keeps_shown 1 event kept w.views k)

  -- .. and where the next iteration starts
  views_onward : (s : ℕ) (before : List ℤ) (kept views : List (List ℤ)) → Keeps s kept views →
      views_from plan s before (map (clear_locals plan.region p.vars) kept) ≡ next_from p plan s before views
  views_onward s before [] [] k = refl
  views_onward s before [] (view ∷ views) k = absurd k
  views_onward s before (own ∷ kept) [] k = absurd k
  views_onward s before (own ∷ kept) (view ∷ views) k =
      let clear : List ℤ → List ℤ = λ cells. clear_locals plan.region p.vars cells in
      let here : (if is_replicated plan s then before else clear own) ≡ (if is_replicated plan s then before else clear view) =
      elim (cases_Bool (is_replicated plan s)) [
        | inl q ↦ rw q refl
        | inr q ↦ rw q (ap clear (k.0 q))
      ] in
      ap (λ (cells : List ℤ). cells ∷ views_from plan (suc s) cells (map (clear_locals plan.region p.vars) kept)) here
      ∙ ap (λ (xs : List (List ℤ)). (if is_replicated plan s then before else clear view) ∷ xs)
      (views_onward (suc s) (if is_replicated plan s then before else clear view) kept views k.1)

  -- no words are counted yet
  counts_none : (counts : List ℕ) → no_words counts ≡ replicate (length counts) 0
  counts_none [] = refl
  counts_none (n ∷ rest) = ap (λ (xs : List ℕ). 0 ∷ xs) (counts_none rest)

  counts_all : (events : List Event) (w : Watch) → length (watched_all p plan events w).counts ≡ length w.counts
  counts_all [] w = refl
  counts_all (event ∷ rest) w = counts_all rest (watched p plan event w) ∙ counted-length p plan event 1 w.counts

  -- where an epoch begins, each stage sees its base
  first_views : (base : List ℤ) (s : ℕ) (before : List ℤ) (stages : List StageKind) →
      ((j t : ℕ) → t ≡ s + j → is_replicated plan t ≡ is_par (slice_get stages j)) → (is_replicated plan s ≡ true → before ≡ base) →
      views_from plan s before (first_kept base stages) ≡ replicate (length stages) base
  first_views base s before [] kinds first = refl
  first_views base s before (Seq ∷ rest) kinds first =
      let here : (if is_replicated plan s then before else base) ≡ base = ap (λ (b : Bool). if b then before else base) (kinds 0 s (omega arith)) in
      ap (λ (cells : List ℤ). cells ∷ views_from plan (suc s) cells (first_kept base rest)) here
      ∙ ap (λ (xs : List (List ℤ)). base ∷ xs) (first_views base (suc s) base rest (λ j t e. kinds (suc j) t (omega (arith, e))) (λ r. refl))
  first_views base s before (Par ∷ rest) kinds first =
      let par = kinds 0 s (omega arith) in
      let here : (if is_replicated plan s then before else []) ≡ base = ap (λ (b : Bool). if b then before else []) par ∙ first par in
      ap (λ (cells : List ℤ). cells ∷ views_from plan (suc s) cells (first_kept base rest)) here
      ∙ ap (λ (xs : List (List ℤ)). base ∷ xs) (first_views base (suc s) base rest (λ j t e. kinds (suc j) t (omega (arith, e))) (λ r. refl))

-- ---- the epoch's own run

from_front : (r : ℕ) (front : List Stmt) (s : Stmt) (tail : List Stmt) → all_free r front ≡ true → is_region r (out-Stmt s) ≡ true →
    statements_from r (front ++ s ∷ tail) ≡ s ∷ tail
from_front r [] s tail free here = ap (λ (b : Bool). if b then s ∷ tail else statements_from r tail) here
from_front r (x ∷ xs) s tail free here =
    let both = and_parts (is_free r x) (all_free r xs) free in
    ap (λ (b : Bool). if b then x ∷ (xs ++ s ∷ tail) else statements_from r (xs ++ s ∷ tail)) (not_at_head r x both.0) ∙ from_front r xs s tail both.1 here

module _ (key : EpochKey) (a : Accepted key.program key.plan) (sound : IsSound key) where
  open key use {program, plan, input, base}

  abbrev r : ℕ
  r = plan.region

  abbrev pub own : Run
  own = epoch_run key

  abbrev fuel : ℕ
  fuel = key.fuel - key.steps

  begins_is : statements_from r program.main ≡ behind a
  begins_is = ap (statements_from r) a.main_is ∙ from_front r a.front a.statement a.tail a.front_free (ap (is_region r) a.is ∙ eq-eqb r r refl)

  begin_is : epoch_begin key ≡ start_at a input base
  begin_is = ap (λ (xs : List Stmt). standing program xs base) begins_is

  stands : StandsInMain program (epoch_begin key)
  stands = record {
    inner = [];
    before = a.front;
    behind = behind a;
    cells = base;
    main_is = a.main_is;
    plain = refl;
    config_is = begin_is;
    cells_are = sound.size;
  }

  start_zero : start own r 0 ≡ Some 0
  start_zero = ap (λ (c : Config). start (run_of program input fuel c) r 0) begin_is ∙ starts_at_once a input 0 fuel base

  memory_zero : memory_after own r 0 ≡ base
  memory_zero = ap (λ (o : Option ℕ). memory_from own o (start own r (0 - 1))) start_zero ∙ ap cells_in (run_first program input fuel (epoch_begin key))
      ∙ ap (λ (c : Config). c.cells) (begin_is ∙ standing_is a input base) ∙ sound.cleared

  -- where the n-th iteration starts, all before it being clean
  pub record Here (n : ℕ) : Type 0 where
    pub k : ℕ
    pub starts : start own r n ≡ Some k
    pub state : state_at key n ≡ record { cells = memory_after own r n; steps = key.steps + k }
    pub clean : CleanSince program plan own 0 n
    pub watch : watch_of plan (kept_at key n) ≡ watch_before program plan own 0 n

  here_zero : Here 0
  here_zero = record {
    k = 0;
    starts = start_zero;
    state = (λ i. record { cells = sym memory_zero i; steps = no_steps i });
    clean = λ j low high. absurd (omega (arith, high));
    watch = (λ i. record {
      views = (first_views program plan base 1 [] plan.stages kinds first
          ∙ ap (replicate (length plan.stages)) (sym memory_zero)) i;
      counts = replicate (length plan.stages) 0;
    });
  }
    where
      no_steps : key.steps ≡ key.steps + 0
      no_steps = omega arith

      kinds : (j t : ℕ) → t ≡ 1 + j → is_replicated plan t ≡ is_par (slice_get plan.stages j)
      kinds j t e = let same : t ≡ suc j = omega (arith, e) in ap (is_replicated plan) same

      first : is_replicated plan 1 ≡ true → [] ≡ base
      first par = absurd (both_ways (is_replicated plan 1) a.sequential par)

  module _ (n : ℕ) (h : Here n) where
    place : n ≡ n - 0
    place = omega arith

    left_is : key.fuel - (key.steps + h.k) ≡ own.fuel - h.k
    left_is = omega (arith, fuel_is program input fuel (epoch_begin key))

    -- a judgement on the n-th packet of the epoch that begins with this memory
    abbrev judging : ℕ → List ℤ → ℕ → Judgement
    judging left from m = judge program plan left (memory_after own r n) (passed (record { program = program; plan = plan; input = input; base = from })
        (length plan.stages) m).packet

    pub judgement_is : judgement_of key n ≡ judgement_at program plan input own 0 n h.k
    judgement_is = ap (judgement_in key n) h.state ∙ ap (λ (left : ℕ). judging left base n) left_is ∙ ap (λ (from : List ℤ). judging (own.fuel - h.k) from n)
        (sym memory_zero) ∙ ap (judging (own.fuel - h.k) (memory_after own r 0)) place

    pub judged : Judged program plan input own 0 n h.k
    judged = judges_rightly a input fuel (epoch_begin key) stands 0 n h.k (omega arith) h.starts h.clean

    unclean_by : judgement_of key n ≡ Unclean → is_clean program plan own 0 n ≡ false
    unclean_by e = elim (cases_Bool (is_clean program plan own 0 n)) [
      | inl c ↦ let clash : Unclean ≡ Clean (done_in plan own n) = sym e ∙ judgement_is ∙ (judged.sent c).judged in absurd (cc clash)
      | inr c ↦ c
    ]

    -- The walk finds the cause, where the judgement is Unclean.
    found : judgement_of key n ≡ Unclean → found_in key n ≡ Some (cause_since program plan own 0 n)
    found e =
        ap (λ (s : JudgeState). cause_walk program plan input (key.fuel - s.steps) (watch_of plan (kept_at key n)) (turn_text program plan) s.cells) h.state
        ∙ ap (λ (left : ℕ). cause_walk program plan input left (watch_of plan (kept_at key n)) (turn_text program plan) (memory_after own r n)) left_is
        ∙ ap (λ (w : Watch). cause_walk program plan input (own.fuel - h.k) w (turn_text program plan) (memory_after own r n)) (h.watch
        ∙ ap (watch_before program plan own 0) place)
        ∙ (finds_causes a input fuel (epoch_begin key) stands 0 n h.k (omega arith) h.starts h.clean).some (unclean_by e)

    module _ (agreed : Agreed) (is : judgement_of key n ≡ Clean agreed) (going : not agreed.closing ≡ true) where
      abbrev events : List Event
      events = iteration own r n

      clean_here : is_clean program plan own 0 n ≡ true
      clean_here = judged.back agreed (sym judgement_is ∙ is)

      told : judgement_of key n ≡ Clean (done_in plan own n)
      told = judgement_is ∙ (judged.sent clean_here).judged

      open_yet : is_closing own r n ≡ false
      open_yet =
          let both : Clean agreed ≡ Clean (done_in plan own n) = sym is ∙ told in
          let same : agreed ≡ done_in plan own n = cc both in
          not-true (is_closing own r n) (ap (λ (v : Agreed). not v.closing) (sym same) ∙ going)

      ended : has_ended own r n ≡ true
      ended = (and_parts _ _ (and_parts _ _ (and_parts _ _ clean_here).0).0).0

      follows : Follows program r own n h.k
      follows = stores_lead a input fuel (epoch_begin key) stands n h.k h.starts ended open_yet

      steps_are : (key.steps + h.k) + length (map effect_in events) ≡ key.steps + (h.k + length events)
      steps_are = omega (arith, length-map events effect_in)

      keeps : Keeps program plan 1 (kept_at key n) (watch_before program plan own 0 n).views
      keeps = subst (λ (w : Watch). Keeps program plan 1 (kept_at key n) w.views) h.watch (keeps_views program plan 1 [] (kept_at key n))

      counted : replicate (length plan.stages) 0 ≡ no_words (watched_all program plan events (watch_before program plan own 0 n)).counts
      counted =
          let all = counts_all program plan events (watch_before program plan own 0 n) ∙ ap (λ (w : Watch). length w.counts) (sym h.watch)
          ∙ length-replicate (length plan.stages) 0 in
          ap (λ (m : ℕ). replicate m 0) (sym all) ∙ sym (counts_none program plan (watched_all program plan events (watch_before program plan own 0 n)).counts)

      viewed : views_from plan 1 [] (map (clear_locals r program.vars) (kept_after program plan (map site_in events) (map effect_in events) (kept_at key n)))
          ≡ next_from program plan 1 [] (watched_all program plan events (watch_before program plan own 0 n)).views
      viewed = views_onward program plan 1 [] _ _ (keeps_all program plan events (kept_at key n) (watch_before program plan own 0 n) keeps)

      here_next : Here (suc n)
      here_next = record {
        k = h.k + length events;
        starts = follows.next_start;
        state = ap (after_judgement key (state_at key n)) told
            ∙ ap (λ (s : JudgeState). record {
              cells = clear_locals r program.vars (applied (map effect_in events) s.cells);
              steps = s.steps + length (map
                  effect_in events);
            }) h.state
            ∙ (λ i. record { cells = sym follows.memory i; steps = steps_are i });
        clean = λ j low high. elim (cases_lt j n) [
          | inl l ↦ h.clean j low l
          | inr l ↦ let same : j ≡ n = omega (arith, l, high) in ap (is_clean program plan own
              0) same ∙ clean_here
        ];
        watch = ap (λ (j : Judgement). watch_of plan (next_kept program plan j (kept_at key n))) told
            ∙ (λ i. record { views = viewed i; counts = counted i })
            ∙ (let zero_more : n ≡ 0 + n = omega arith in ap (λ (m : ℕ). next_watch program plan
            (watched_all program plan (iteration own r m) (watch_before program plan own 0 n))) zero_more);
      }

    next_by : (j : Judgement) → judgement_of key n ≡ j → goes_on (verdict_by key n j) ≡ true → Here (suc n)
    next_by (Clean agreed) is going = here_next agreed is going
    next_by Unclean is going = absurd (cc going)

  pub here_at : (n : ℕ) → ((m : ℕ) → m < n → goes_on (verdict_at key m) ≡ true) → Here n
  here_at zero gone = here_zero
  here_at (suc n) gone = next_by n (here_at n (λ m l. gone m (omega (arith, l)))) (judgement_of key n) refl (gone n (omega arith))

pub finds_in_epochs : {p : Program} {plan : Plan} → ((key : EpochKey) → key.program ≡ p → key.plan ≡ plan → Accepted key.program key.plan) →
    FindsInEpochs p plan
finds_in_epochs accepts key program_is plan_is sound n gone unclean =
    let a = accepts key program_is plan_is in found key a sound n (here_at key a sound n gone) unclean

-- where the region's condition comes next, its body locals read 0
pub cleared_there : {p : Program} {plan : Plan} (a : Accepted p plan) (cells : List ℤ) → (standing p (statements_from plan.region p.main) cells).cells ≡ cells →
    clear_locals plan.region p.vars cells ≡ cells
cleared_there {p = p} {plan = plan} a cells still =
    sym (ap (λ (c : Config). c.cells) (ap (λ (xs : List Stmt). standing p xs cells) (ap (statements_from plan.region) a.main_is
    ∙ from_front plan.region a.front a.statement a.tail a.front_free (ap (is_region plan.region) a.is ∙ eq-eqb plan.region plan.region refl))
    ∙ standing_is a [] cells))
    ∙ still
