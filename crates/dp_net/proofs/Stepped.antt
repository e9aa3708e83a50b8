-- One step at a statement of the source's text: of a stage's turn, of the one that breaks off where it goes against an assumption, and of the judgement.
use Rattle.dp_semantics.proofs.Names.{◌≡◌, inl, inr, refl, sym, ap, ◌∙◌, subst, ℕ, suc, ◌+◌, ◌-◌, ◌≤◌, Bool, true, false, ◌&&◌, ◌||◌, if◌then◌else◌, List, []}
use Rattle.dp_semantics.proofs.Names.{◌∷◌, ◌++◌, ℤ, length, Option, Some, None, Ok, Err, Result, nat_le, nat_lt, leb-true, ltb-true, eq-eqb, ne_eqb, slice_set}
use Rattle.dp_semantics.proofs.Names.{and_parts, cases_Bool, FaultKind, SiteId, Stmt, out-Stmt, roll-Stmt, out-roll-Stmt, Stmt-F, Assign, Store, Print, If}
use Rattle.dp_semantics.proofs.Names.{While, Region, Break, Call, Program, Plan, Word, evaluated, WithLoads, Effect, Stored, Printed, Decided, Tried, site_of}
use Rattle.dp_semantics.proofs.Names.{value_of, stored, followed, project, stage_of, first_site, as_assumed, closes_at, effect_by, is_done_of, after_loads_of}
use Rattle.dp_semantics.proofs.Names.{words_of, word_list, first_cell, cell_count, Full, Void, Taken, taken_from, Turn, TurnEnd, turn_by, turn_step, own_step}
use Rattle.dp_semantics.proofs.Names.{consumed_step, Judging, Agreed, Clean, Unclean, judged, judge_step, judge_by, loads_hold, last, project_all}
unfoldable use Rattle.dp_semantics.proofs.Names.{turn_from, judge_from}
use Rattle.dp_semantics.specs.Words.{Astray, is_cell_of, done_from, taken_by}
use Rattle.dp_semantics.specs.Judge.{judged_by}
use Rattle.dp_semantics.proofs.Evaluation.{Form}
use Rattle.dp_semantics.proofs.Heads.{all_well, well_at}
use Rattle.dp_semantics.proofs.Ways.{event_of}
use Rattle.dp_theorem.proofs.Projected.{proj_head, stays_there, kept_followed}
use Rattle.dp_theorem.proofs.Stepping.{site_proj, evaluated_proj}
use Rattle.dp_net.proofs.Strict.{strict_step, strict_own_step}
unfoldable use Rattle.dp_net.proofs.Strict.{strict_from}
use Rattle.dp_net.proofs.Blocks.{at_turn}

module _ (p : Program) (plan : Plan) where
  -- A statement's words say what it may do.
  word_form : (h : Stmt-F Stmt) → well_at p plan h ≡ true → (w : Word) (effect : Effect) → effect_by p h w ≡ Some effect → Form p h effect
  word_form (Assign site x e) well w effect q = cell_form (is_cell_of p x w.index) refl q
    where
      cell_form : (b : Bool) → is_cell_of p x w.index ≡ b → (if b then Some (Stored w.index w.value) else None) ≡ Some effect → Form p (Assign site x e) effect
      cell_form true c q =
          let both = and_parts (nat_le (first_cell p x) w.index) (nat_lt w.index (first_cell p x + cell_count p x)) c in
          let same : Stored w.index w.value ≡ effect = cc q in
          subst (Form p (Assign site x e)) same (leb-true (first_cell p x) w.index both.0, ltb-true w.index (first_cell p x + cell_count p x) both.1)
      cell_form false c q = absurd (cc q)
  word_form (Store site x index e) well w effect q = cell_form (is_cell_of p x w.index) refl q
    where
      cell_form : (b : Bool) → is_cell_of p x w.index ≡ b → (if b then Some (Stored w.index w.value) else None) ≡ Some effect →
          Form p (Store site x index e) effect
      cell_form true c q =
          let both = and_parts (nat_le (first_cell p x) w.index) (nat_lt w.index (first_cell p x + cell_count p x)) c in
          let same : Stored w.index w.value ≡ effect = cc q in
          subst (Form p (Store site x index e)) same (leb-true (first_cell p x) w.index both.0, ltb-true w.index (first_cell p x + cell_count p x) both.1)
      cell_form false c q = absurd (cc q)
  word_form (Print site e) well w effect q = let same : Printed w.value ≡ effect = cc q in subst (Form p (Print site e)) same tt
  word_form (If site cond a b) well w effect q = let same : Decided w.value ≡ effect = cc q in subst (Form p (If site cond a b)) same tt
  word_form (While site cond a) well w effect q = let same : Decided w.value ≡ effect = cc q in subst (Form p (While site cond a)) same tt
  word_form (Break site cond) well w effect q = let same : Tried w.value ≡ effect = cc q in subst (Form p (Break site cond)) same tt
  word_form (Region r site cond a) well w effect q = absurd (cc)
  word_form (Call f line args) well w effect q = absurd (cc)

  by_form : (h : Stmt-F Stmt) → well_at p plan h ≡ true → (w : Word) (ws : List Word) (t : Taken) (o : Option Effect) → effect_by p h w ≡ o →
      taken_by (site_of h).0 w ws o ≡ Ok t → Form p h t.effect
  by_form h well w ws t None q e = absurd (cc e)
  by_form h well w ws t (Some effect) q e =
      let same : record { effect = effect; rest = ws } ≡ t = cc e in subst (Form p h) (ap (λ (u : Taken). u.effect) same) (word_form h well w effect q)

  done_form : (h : Stmt-F Stmt) → well_at p plan h ≡ true → (ws : List Word) (t : Taken) → done_from p h ws ≡ Ok t → Form p h t.effect
  done_form h well [] t e = absurd (cc e)
  done_form h well (w ∷ ws) t e = elim (cases_Bool (is_done_of (site_of h).0 w)) [
    | inl q ↦ by_form h well w ws t (effect_by p h w) refl (rw q at e)
    | inr q ↦ let clash : Err (Astray (site_of h).0 (Some w)) ≡ Ok t = rw q at e in absurd (cc clash)
  ]

  pub taken_form : (h : Stmt-F Stmt) → well_at p plan h ≡ true → (ws : List Word) (t : Taken) → taken_from p h ws ≡ Ok t → Form p h t.effect
  taken_form h well ws t e = done_form h well (after_loads_of (site_of h).0 ws) t e

  pub taken_proj : (s : ℕ) (h : Stmt-F Stmt) (ws : List Word) → taken_from p (proj_head p plan s h) ws ≡ taken_from p h ws
  taken_proj s (If site cond a b) ws = refl
  taken_proj s (While site cond a) ws = refl
  taken_proj s _ ws = refl

  module _ (input : List ℤ) (x : Stmt) (rest : List Stmt) (well : well_at p plan (out-Stmt x) ≡ true) (behind : all_well p plan rest ≡ true) where
    abbrev h : Stmt-F Stmt
    h = out-Stmt x

    abbrev u : ℕ
    u = stage_of p plan (site_of h).0

    abbrev pub words_here : WithLoads Effect → List Word
    words_here v = words_of p plan (event_of h v)

    module _ (s : ℕ) (reach : u ≤ s) where
      abbrev hs : Stmt-F Stmt
      hs = proj_head p plan s h

      abbrev y : Stmt
      y = roll-Stmt hs

      abbrev onward : List Stmt
      onward = project_all p plan s rest

      stays : project p plan s x ≡ y ∷ []
      stays = stays_there p plan s x well reach

      pub text_is : project_all p plan s (x ∷ rest) ≡ y ∷ onward
      text_is = ap (λ (ys : List Stmt). ys ++ onward) stays

      pub next_is : (z : ℤ) → followed y onward hs z ≡ project_all p plan s (followed x rest h z)
      next_is z = kept_followed p plan s x y rest h z well behind stays

      module _ (cells : List ℤ) (lists : List (List Word)) (own : List Word) (closing : Bool) where
        abbrev pub stage_turn : Turn
        stage_turn = at_turn (project_all p plan s (x ∷ rest)) cells lists own closing

        -- behind the statement
        abbrev pub turn_after : Effect → List Word → List (List Word) → Turn
        turn_after effect own' lists' = at_turn (project_all p plan s (followed x rest h (value_of effect)))
            (stored effect cells) lists' own' (closing || closes_at (first_site p plan) (site_of h).0 effect)

        abbrev opened : Turn
        opened = at_turn (y ∷ onward) cells lists own closing

        turn_opened : (n : ℕ) → turn_from p plan input s (suc n) stage_turn ≡ turn_by (turn_from p plan input s n) (turn_step p plan input s opened y onward hs)
        unfolding turn_from
        turn_opened n = rw text_is (ap (λ (g : Stmt-F Stmt). turn_by (turn_from p plan input s n) (turn_step p plan input s opened y onward g))
            (out-roll-Stmt hs))

        strict_opened : (n : ℕ) →
            strict_from p plan input s (suc n) stage_turn ≡ turn_by (strict_from p plan input s n) (strict_step p plan input s opened y onward hs)
        unfolding strict_from
        strict_opened n = rw text_is (ap (λ (g : Stmt-F Stmt). turn_by (strict_from p plan input s n) (strict_step p plan input s opened y onward g))
            (out-roll-Stmt hs))

        -- words of an earlier stage are taken
        module _ (other : u ≡ s → ⊥) where
          step_taken : turn_step p plan input s opened y onward hs ≡ consumed_step p plan opened y onward hs (taken_from p h (word_list lists u))
          step_taken = rw (taken_proj s h (word_list lists (stage_of p plan (site_of hs).0)), site_proj p plan s h, ne_eqb u s other) refl

          strict_taken_step : strict_step p plan input s opened y onward hs ≡ consumed_step p plan opened y onward hs (taken_from p h (word_list lists u))
          strict_taken_step = rw (taken_proj s h (word_list lists (stage_of p plan (site_of hs).0)), site_proj p plan s h, ne_eqb u s other) refl

          consumed_is : (w : Taken) → consumed_step p plan opened y onward hs (Ok w) ≡ Ok (turn_after w.effect own (slice_set lists (u - 1) w.rest))
          consumed_is w = rw (site_proj p plan s h) (ap (λ (c : Turn). Ok c) (rw (next_is (value_of w.effect)) refl))

          pub turn_takes : (w : Taken) → taken_from p h (word_list lists u) ≡ Ok w → (n : ℕ) →
              turn_from p plan input s (suc n) stage_turn ≡ turn_from p plan input s n (turn_after w.effect own (slice_set lists (u - 1) w.rest))
          turn_takes w e n = turn_opened n
              ∙ ap (turn_by (turn_from p plan input s n)) (step_taken ∙ ap (consumed_step p plan opened y onward hs) e ∙ consumed_is w)

          pub strict_takes : (w : Taken) → taken_from p h (word_list lists u) ≡ Ok w → (n : ℕ) →
              strict_from p plan input s (suc n) stage_turn ≡ strict_from p plan input s n (turn_after w.effect own (slice_set lists (u - 1) w.rest))
          strict_takes w e n = strict_opened n
              ∙ ap (turn_by (strict_from p plan input s n)) (strict_taken_step ∙ ap (consumed_step p plan opened y onward hs) e ∙ consumed_is w)

        -- an own site is evaluated
        module _ (here : u ≡ s) where
          own_is : turn_step p plan input s opened y onward hs ≡ own_step p plan opened y onward hs (evaluated p input cells h)
          own_is = rw (site_proj p plan s h, eq-eqb u s here, evaluated_proj p plan s input cells h) refl

          strict_own_is : strict_step p plan input s opened y onward hs ≡ strict_own_step p plan opened y onward hs (evaluated p input cells h)
          strict_own_is = rw (site_proj p plan s h, eq-eqb u s here, evaluated_proj p plan s input cells h) refl

          pub turn_faults : (kind : FaultKind) → evaluated p input cells h ≡ Err kind → (n : ℕ) →
              (why : Void) × (turn_from p plan input s (suc n) stage_turn ≡ Err why)
          turn_faults kind e n = (_, turn_opened n ∙ ap (turn_by (turn_from p plan input s n)) (own_is ∙ ap (own_step p plan opened y onward hs) e))

          when_fits : (go : Turn → TurnEnd) (b : Bool) (c : Turn) → turn_by go (if b then Ok c else Err Full) ≡ (if b then go c else Err Full)
          when_fits go true c = refl
          when_fits go false c = refl

          pub turn_makes : (v : WithLoads Effect) → evaluated p input cells h ≡ Ok v → (n : ℕ) → turn_from p plan input s (suc n) stage_turn
              ≡ (if nat_le (length (own ++ words_here v)) plan.words then turn_from p plan input s n
              (turn_after v.value (own ++ words_here v) lists) else Err Full)
          turn_makes v e n =
              turn_opened n
              ∙ ap (turn_by (turn_from p plan input s n)) (own_is ∙ ap (own_step p plan opened y onward hs) e
              ∙ rw (site_proj p plan s h) (rw (next_is (value_of v.value)) refl))
              ∙ when_fits (turn_from p plan input s n) (nat_le (length (own ++ words_here v)) plan.words) (turn_after v.value (own ++ words_here v) lists)

          pub strict_makes : (v : WithLoads Effect) → evaluated p input cells h ≡ Ok v → (n : ℕ) → strict_from p plan input s (suc n) stage_turn
              ≡ (if as_assumed p plan (site_of h).0 v.value && nat_le (length (own ++ words_here v)) plan.words then strict_from p plan input s n
              (turn_after v.value (own ++ words_here v) lists) else Err Full)
          strict_makes v e n =
              strict_opened n
              ∙ ap (turn_by (strict_from p plan input s n)) (strict_own_is ∙ ap (strict_own_step p plan opened y onward hs) e
              ∙ rw (site_proj p plan s h) (rw (next_is (value_of v.value)) refl))
              ∙ when_fits (strict_from p plan input s n) (as_assumed p plan (site_of h).0 v.value && nat_le (length (own ++ words_here v)) plan.words)
              (turn_after v.value (own ++ words_here v) lists)

        -- The judgement goes on where the words are the site's and go as assumed.
        pub record JudgedOn (n : ℕ) (v : Agreed) : Type 0 where
          pub taken : Taken
          pub taken_is : taken_from p h (word_list lists u) ≡ Ok taken
          pub assumed : as_assumed p plan (site_of h).0 taken.effect ≡ true
          pub effects : List Effect
          pub sites : List ℕ
          pub goes_on : judge_from p plan n
              (record { turn = turn_after taken.effect own (slice_set lists (u - 1) taken.rest); effects = effects; sites = sites }) ≡ Clean v

        module _ (at_end : s ≡ last plan) (effects : List Effect) (sites : List ℕ) where
          abbrev judging : Judging
          judging = record { turn = stage_turn; effects = effects; sites = sites }

          abbrev judging_here : Judging
          judging_here = record { turn = opened; effects = effects; sites = sites }

          judge_opened : (n : ℕ) → judge_from p plan (suc n) judging ≡ judge_by (judge_from p plan n) (judge_step p plan judging_here y onward hs)
          unfolding judge_from
          judge_opened n = rw text_is (ap (λ (g : Stmt-F Stmt). judge_by (judge_from p plan n) (judge_step p plan judging_here y onward g)) (out-roll-Stmt hs))

          pub judge_stops : (v : Agreed) → judge_from p plan 0 judging ≡ Clean v → ⊥
          unfolding judge_from
          judge_stops v e = let clash : Unclean ≡ Clean v = rw text_is at e in absurd (cc clash)

          judge_step_is : judge_step p plan judging_here y onward hs ≡ judged_by p plan judging_here y onward hs
              (loads_hold (site_of h).0 cells (word_list lists u)) (taken_from p h (word_list lists u))
          judge_step_is = rw (taken_proj s h (word_list lists (stage_of p plan (site_of hs).0)), site_proj p plan s h) refl

          pub judged_on : (n : ℕ) (v : Agreed) → judge_from p plan (suc n) judging ≡ Clean v → JudgedOn n v
          judged_on n v e = by (taken_from p h (word_list lists u)) refl (loads_hold (site_of h).0 cells (word_list lists u))
              (sym (judge_opened n ∙ ap (judge_by (judge_from p plan n)) judge_step_is) ∙ e)
            where
              by : (r : Result Taken Void) → taken_from p h (word_list lists u) ≡ r → (held : Bool) →
                  judge_by (judge_from p plan n) (judged_by p plan judging_here y onward hs held r) ≡ Clean v → JudgedOn n v
              by (Err why) q held e = absurd (cc e)
              by (Ok w) q held e = by_test (held && as_assumed p plan (site_of hs).0 w.effect) refl e
                where
                  judged_is : judged p plan judging_here y onward hs w
                      ≡ record {
                        turn = turn_after w.effect own (slice_set lists (u - 1) w.rest);
                        effects = effects ++ w.effect ∷ [];
                        sites = sites ++ (site_of h).0 ∷ [];
                      }
                  judged_is = rw (site_proj p plan s h) (rw (next_is (value_of w.effect)) refl)

                  by_test : (b : Bool) → (held && as_assumed p plan (site_of hs).0 w.effect) ≡ b →
                      judge_by (judge_from p plan n) (if b then Some (judged p plan judging_here y onward hs w) else None) ≡ Clean v → JudgedOn n v
                  by_test false t e = absurd (cc e)
                  by_test true t e = record {
                    taken = w;
                    taken_is = q;
                    assumed = ap (λ (site : SiteId). as_assumed p plan site.0 w.effect) (sym (site_proj p plan s h))
                        ∙ (and_parts held (as_assumed p plan (site_of hs).0 w.effect) t).1;
                    effects = effects ++ w.effect ∷ [];
                    sites = sites ++ (site_of h).0 ∷ [];
                    goes_on = ap (judge_from p plan n) (sym judged_is) ∙ e;
                  }
