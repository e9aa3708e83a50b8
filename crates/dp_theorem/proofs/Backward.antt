-- A Clean judgement, step by step: the source makes each event, and it agrees with the plan.
use Rattle.dp_semantics.proofs.Names.{◌≡◌, ◌⊎◌, inl, inr, refl, sym, ap, ◌∙◌, subst, append_assoc, ℕ, zero, suc, ◌-◌, ◌<◌, ◌≤◌, Bool, true, false, ◌&&◌}
use Rattle.dp_semantics.proofs.Names.{if◌then◌else◌, List, [], ◌∷◌, ◌++◌, ℤ, length, Some, None, Ok, arith, append-nil, cases_eq, list_all, Word, SiteId, Stmt}
use Rattle.dp_semantics.proofs.Names.{out-Stmt, out-roll-Stmt, WithLoads, Event, Effect, followed, site_of, value_of, stored, stage_of, Past, all_agree}
use Rattle.dp_semantics.proofs.Names.{event_agrees, event_as_assumed, words_of, word_list, Turn, Ended, turn_from, Epoch, Judging, Judgement, Agreed, Clean}
use Rattle.dp_semantics.proofs.Names.{Unclean, judge_by, judge_spent, judge_from, last, and_from, append_cancel_left}
use Rattle.dp_semantics.proofs.Setting.{Fit}
use Rattle.dp_theorem.proofs.Stepping.{InStep, Moved, Advanced, advance, here, staying, onward, site_proj, evaluated_proj, head_is, words_for, words_here}
use Rattle.dp_theorem.proofs.Stepping.{words_elsewhere, event_held, event_of, past_of, stage_for, Gives, Stands, own_site, form_of, stands_next, stage_does}
use Rattle.dp_theorem.proofs.Stepping.{source_does, event_sees}
use Rattle.dp_theorem.proofs.Lockstep.{Goes, stays, goes, words_through}
use Rattle.dp_theorem.proofs.Judging.{judged_next, held, judge_turn, next_stands, next_moved, held_here}
use Rattle.dp_theorem.proofs.TurnBack.{some_steps, Own, own_back}

-- a stage in step with the source, whose turn comes to its end with the words that the judgement still has to take
pub record Running (k : Epoch) (i s : ℕ) (to_do : List Stmt) (earlier : List Past) (lists : List (List Word)) : Type 0 where
  pub turn : Turn
  pub steps : ℕ
  pub ended : Ended
  pub in_step : InStep k i s to_do earlier turn
  pub runs : turn_from k.program k.plan k.input s steps turn ≡ Ok ended
  pub own : ended.own ≡ turn.own ++ word_list lists s
  pub same : (t : ℕ) → 0 < t → t < s → word_list turn.lists t ≡ word_list lists t
  pub room : length turn.own ≤ k.plan.words

abbrev pub AllRunning : Epoch → ℕ → List Stmt → List Past → List (List Word) → Type 0
AllRunning k i to_do earlier lists = (s : ℕ) → 0 < s → s < last k.plan → Running k i s to_do earlier lists

-- what the judgement's tests said where it came to Clean
compared : (go : Judging → Judgement) (a b : Bool) (next : Judging) (verdict : Agreed) → judge_by go (if a && b then Some next else None) ≡ Clean verdict →
    (a ≡ true) × (b ≡ true) × (go next ≡ Clean verdict)
compared go true true next verdict e = (refl, refl, e)
compared go true false next verdict e = absurd (cc)
compared go false b next verdict e = absurd (cc)

module _ {k : Epoch} (ok : Fit k) {i : ℕ} {x : Stmt} {rest : List Stmt} {earlier : List Past} {cells : List ℤ} (at : Stands k i (x ∷ rest) earlier cells) where
  open k use {program, plan, input, base}

  -- what the stage of the site does next
  record Next (lists : List (List Word)) (turn : Turn) : Type 0 where
    pub v : WithLoads Effect
    pub gave : Gives k turn.cells x v
    pub fits : length (turn.own ++ words_for program plan (stage_for k x) (event_of (out-Stmt x) v)) ≤ plan.words
    pub more : List Word
    pub front : word_list lists (stage_for k x) ≡ words_of program plan (event_of (out-Stmt x) v) ++ more

  next_of : (lists : List (List Word)) (r : Running k i (stage_for k x) (x ∷ rest) earlier lists) → Next lists r.turn
  next_of lists r = record {
    v = o.v;
    gave = sym (evaluated_proj program plan (stage_for k x) input r.turn.cells (out-Stmt x)) ∙ o.gave;
    fits = subst (λ (ws : List Word). length (r.turn.own ++ ws) ≤ plan.words) (same_words
        ∙ sym (words_here program plan (stage_for k x) (event_of (out-Stmt x) o.v) refl)) o.room;
    more = o.grew.0;
    front = append_cancel_left r.turn.own (word_list lists (stage_for k x)) (words_of program plan (event_of (out-Stmt x) o.v) ++ o.grew.0)
        (sym r.own ∙ o.grew.1 ∙ ap (λ ws. (r.turn.own ++ ws) ++ o.grew.0) same_words
        ∙ append_assoc r.turn.own (words_of program plan (event_of (out-Stmt x) o.v)) o.grew.0);
  }
    where
      site_same : site_of (here ok at (stage_for k x)) ≡ site_of (out-Stmt x)
      site_same = site_proj program plan (stage_for k x) (out-Stmt x)

      o : Own program plan input (stage_for k x) r.turn (here ok at (stage_for k x)) r.ended
      o = own_back program plan input (stage_for k x) r.steps r.turn (staying ok at (stage_for k x)) (onward ok at (stage_for k x))
          (here ok at (stage_for k x)) r.ended
          (head_is ok at (stage_for k x) r.turn r.in_step (omega arith)) (out-roll-Stmt (here ok at (stage_for k x)))
          (ap (λ (n : SiteId). stage_of program plan n.0) site_same) r.runs

      same_words : words_of program plan (event_of (here ok at (stage_for k x)) o.v) ≡ words_of program plan (event_of (out-Stmt x) o.v)
      same_words = ap (λ (n : SiteId). words_of program plan (record { site = n.0; loads = o.v.loads; effect = o.v.value })) site_same

  -- Each stage goes on in step, where the source makes the event and the judgement takes its words.
  module _ (j d : Turn) (all : AllRunning k i (x ∷ rest) earlier j.lists) (v : WithLoads Effect) (gave : Gives k cells x v)
      (agree : event_agrees program plan base i earlier (event_of (out-Stmt x) v) ≡ true)
      (told : event_as_assumed program plan (event_of (out-Stmt x) v) ≡ true) (more : List Word)
      (front : word_list j.lists (stage_for k x) ≡ words_of program plan (event_of (out-Stmt x) v) ++ more)
      (moved : Moved k (last plan) 1 (event_of (out-Stmt x) v) j d) where
    does : (s : ℕ) (low : 0 < s) (high : s < last plan) → stage_for k x ≡ s → Gives k (all s low high).turn.cells x v
    does s low high e =
        subst (λ (u : ℕ). (a : 0 < u) (b : u < last plan) → Gives k (all u a b).turn.cells x v) e
        (λ a b. stage_does ok at (all (stage_for k x) a b).turn.cells (all (stage_for k x) a b).in_step.sees v gave agree) low high

    fits_own : (low : 0 < stage_for k x) (high : stage_for k x < last plan) →
        length ((all (stage_for k x) low high).turn.own ++ words_for program plan (stage_for k x) (event_of (out-Stmt x) v)) ≤ plan.words
    fits_own low high =
        let n = next_of j.lists (all (stage_for k x) low high) in
        let same : n.v ≡ v = cc (n.gave, does (stage_for k x) low high refl) in
        subst (λ (w : WithLoads Effect). length ((all (stage_for k x) low high).turn.own ++ words_for program plan (stage_for k x) (event_of (out-Stmt x) w))
        ≤ plan.words) same n.fits

    fits_at : (s : ℕ) (low : 0 < s) (high : s < last plan) →
        length ((all s low high).turn.own ++ words_for program plan s (event_of (out-Stmt x) v)) ≤ plan.words
    fits_at s low high = by (cases_eq (stage_for k x) s)
      where
        by : (stage_for k x ≡ s) ⊎ (stage_for k x ≡ s → ⊥) →
            length ((all s low high).turn.own ++ words_for program plan s (event_of (out-Stmt x) v)) ≤ plan.words
        by (inl e) = subst (λ (u : ℕ). (a : 0 < u) (b : u < last plan) → length ((all u a b).turn.own ++ words_for program plan u (event_of (out-Stmt x) v))
            ≤ plan.words) e fits_own low high
        by (inr e) = subst (λ (ws : List Word). length ws ≤ plan.words)
            (sym (ap (λ ws. (all s low high).turn.own ++ ws) (words_elsewhere program plan s (event_of (out-Stmt x) v) e)
            ∙ append-nil (all s low high).turn.own)) (all s low high).room

    advanced : (s : ℕ) (low : 0 < s) (high : s < last plan) → Advanced k i s (followed x rest (out-Stmt x) (value_of v.value)) (past_of i x v ∷ earlier)
        (event_of (out-Stmt x) v) (all s low high).turn
    advanced s low high =
        advance ok at s (all s low high).turn (all s low high).in_step v low (form_of ok at cells v gave) told (does s low high) (fits_at s low high) more
        (λ before. (all s low high).same (stage_for k x) (own_site ok at).staged before ∙ front)

    run_on : (s : ℕ) (low : 0 < s) (high : s < last plan) →
        (r : Running k i s (followed x rest (out-Stmt x) (value_of v.value)) (past_of i x v ∷ earlier) d.lists)
        × (r.turn.own ≡ (all s low high).turn.own ++ words_for program plan s (event_of (out-Stmt x) v))
    run_on s low high = (
      record {
        turn = a.turn;
        steps = q.steps - a.steps;
        ended = q.ended;
        in_step = a.in_step;
        runs = sym (a.runs q.steps (q.steps - a.steps) (omega (arith, a.few, some_steps program plan input s q.steps q.turn q.ended q.runs))) ∙ q.runs;
        own = q.own ∙ ap (λ ws. q.turn.own ++ ws) (moved.lists s low high)
            ∙ sym (append_assoc q.turn.own (words_for program plan s (event_of (out-Stmt x) v)) (word_list d.lists s))
            ∙ ap (λ ws. ws ++ word_list d.lists s) (sym a.moved.own);
        same = λ t up down. append_cancel_left (words_for program plan t (event_of (out-Stmt x) v)) (word_list a.turn.lists t) (word_list d.lists t)
            (sym (a.moved.lists t up down) ∙ q.same t up down ∙ moved.lists t up (omega (arith, down, high)));
        room = subst (λ (ws : List Word). length ws ≤ plan.words) (sym a.moved.own) (fits_at s low high);
      },
      a.moved.own,
    )
      where
        q : Running k i s (x ∷ rest) earlier j.lists
        q = all s low high

        a : Advanced k i s (followed x rest (out-Stmt x) (value_of v.value)) (past_of i x v ∷ earlier) (event_of (out-Stmt x) v) q.turn
        a = advanced s low high

  spent_unclean : (j : Judging) → InStep k i (last plan) (x ∷ rest) earlier j.turn → judge_from program plan zero j ≡ Unclean
  unfolding judge_from
  spent_unclean j b = ap (judge_spent j) (head_is ok at (last plan) j.turn b (omega (arith, (own_site ok at).early)))

-- the source makes the rest of the iteration within n steps, in agreement with the plan
pub record Agreeing (k : Epoch) (i : ℕ) (to_do : List Stmt) (earlier : List Past) (cells : List ℤ) (lists : List (List Word))
    (all : AllRunning k i to_do earlier lists) (n : ℕ) : Type 0 where
  pub events : List Event
  pub then_cells : List ℤ
  pub path : Goes k.program k.input to_do cells events [] then_cells
  pub agree : all_agree k.program k.plan k.base i earlier events ≡ true
  pub told : list_all (event_as_assumed k.program k.plan) events ≡ true
  pub fits : (s : ℕ) (low : 0 < s) (high : s < last k.plan) → length ((all s low high).turn.own ++ words_through k.program k.plan s events) ≤ k.plan.words
  pub within : length events ≤ n

module _ {k : Epoch} (ok : Fit k) {i : ℕ} where
  open k use {program, plan, input, base}

  pub judge_back : (n : ℕ) (to_do : List Stmt) (earlier : List Past) (cells : List ℤ) → Stands k i to_do earlier cells →
      (j : Judging) (all : AllRunning k i to_do earlier j.turn.lists) (verdict : Agreed) → InStep k i (last plan) to_do earlier j.turn →
      judge_from program plan n j ≡ Clean verdict → Agreeing k i to_do earlier cells j.turn.lists all n
  judge_back n [] earlier cells at j all verdict b e = record {
    events = [];
    then_cells = cells;
    path = stays;
    agree = refl;
    told = refl;
    fits = λ s low high. subst (λ (ws : List Word). length ws ≤ plan.words) (sym (append-nil (all s low high).turn.own)) (all s low high).room;
    within = omega arith;
  }
  judge_back zero (x ∷ rest) earlier cells at j all verdict b e = absurd (cc (spent_unclean ok at j b))
  judge_back (suc n) (x ∷ rest) earlier cells at j all verdict b e =
      let q = all (stage_for k x) (own_site ok at).staged (own_site ok at).early in
      let next = next_of ok at j.turn.lists q in
      let form = form_of ok at q.turn.cells next.v next.gave in
      let tests = compared (judge_from program plan n) (held ok at j b next.v form next.more next.front)
      (event_as_assumed program plan (event_of (out-Stmt x) next.v)) (judged_next ok at j b next.v form next.more next.front) verdict
      (sym (judge_turn ok at j b next.v form next.more next.front n) ∙ e) in
      let gave = source_does ok at q.turn.cells q.in_step.sees next.v next.gave (λ checked. held_here ok at j b next.v form next.more next.front next.v.loads
      (event_held program plan (event_of (out-Stmt x) next.v) next.more j.turn.cells tests.0 checked)) in
      let agree = event_sees ok at q.turn.cells q.in_step.sees next.v next.gave in
      let then_j = judged_next ok at j b next.v form next.more next.front in
      let on = run_on ok at j.turn then_j.turn all next.v gave agree tests.1 next.more next.front (next_moved ok at j b next.v form next.more next.front) in
      let next_all : AllRunning k i (followed x rest (out-Stmt x) (value_of next.v.value)) (past_of i x next.v ∷ earlier) then_j.turn.lists = λ s low high.
      (on s low high).0 in
      let later = judge_back n (followed x rest (out-Stmt x) (value_of next.v.value)) (past_of i x next.v ∷ earlier) (stored next.v.value cells)
      (stands_next ok at next.v gave) then_j next_all verdict (next_stands ok at j b next.v form next.more next.front) tests.2 in
      record {
        events = event_of (out-Stmt x) next.v ∷ later.events;
        then_cells = later.then_cells;
        path = goes {events = later.events} {then_cells = later.then_cells} gave later.path;
        agree = and_from (event_agrees program plan base i earlier (event_of (out-Stmt x) next.v)) (all_agree program plan base i (past_of i x next.v ∷ earlier)
            later.events) agree later.agree;
        told = and_from (event_as_assumed program plan (event_of (out-Stmt x) next.v))
            (list_all (event_as_assumed program plan) later.events) tests.1 later.told;
        fits = λ s low high. rw (
          ← (append_assoc (all s low high).turn.own (words_for program plan s (event_of (out-Stmt x) next.v))
              (words_through program plan s later.events)),
          ← (on s low high).1,
        ) (later.fits s low high);
        within = omega (arith, later.within);
      }
