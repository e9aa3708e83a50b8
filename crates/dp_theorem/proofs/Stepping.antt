-- One step of the source against one step, or none, of a stage: it stays in step, and its words are the event's.
use Rattle.dp_semantics.proofs.Names.{closes_at, and_parts, well_nested, ◌≡◌, inl, inr, refl, sym, ap, ◌∙◌, subst, ℕ, suc, ◌+◌, ◌-◌, ◌<◌, ◌≤◌, true, ◌||◌, List}
use Rattle.dp_semantics.proofs.Names.{[], ◌∷◌, ◌++◌, ℤ, length, length-append, get_or, sum_by, slice_set, Ok, arith, eq-eqb, ne_eqb, le-leb, append-nil}
use Rattle.dp_semantics.proofs.Names.{length-set, sum_by-set, cases_eq, cases_order, Word, SiteId, Stmt, out-Stmt, roll-Stmt, out-roll-Stmt, Stmt-F, If, While}
use Rattle.dp_semantics.proofs.Names.{Program, Plan, WithLoads, Event, Effect, followed, site_of, value_of, evaluated, stage_of, first_site, Past, as_assumed}
use Rattle.dp_semantics.proofs.Names.{project, project_all, Taken, words_of, effect_by, taken_from, word_list, Turn, turned, stage_at, consumed, words_left}
use Rattle.dp_semantics.proofs.Names.{turn_step, turn_from, Epoch, or-false}
pub use Rattle.dp_semantics.proofs.Taking.{words_for, words_here, event_passes, words_elsewhere, event_held, word_list_is, word_list_same, word_list_other}
pub use Rattle.dp_semantics.proofs.Taking.{effect_of_word, taken_event}
pub use Rattle.dp_theorem.proofs.Source.{event_of, past_of, stage_for, Stands, stands_next, own_site, form_of, stage_does, own_loads, Gives, source_does}
pub use Rattle.dp_theorem.proofs.Source.{event_sees, well_parts, each_joins, each_parts, head_fact, head_well, store_within}
pub use Rattle.dp_theorem.proofs.Seeing.{stored_none, seen_alike, seen_base, up_to, Sees, stored-length, sees_later, sees_stored}
pub use Rattle.dp_theorem.proofs.Projected.{reached, assumed_of, late_stays, proj_head, stays_there, kept_followed, unseen}
use Rattle.dp_semantics.proofs.Setting.{size, Fit, Form, project_out, all_well}
use Rattle.dp_semantics.proofs.Shorter.{some_word}

-- stage s stands in iteration i where the source has `to_do` to do after the earlier events
pub record InStep (k : Epoch) (i s : ℕ) (to_do : List Stmt) (earlier : List Past) (c : Turn) : Type 0 where
  pub to_do_is : c.to_do ≡ project_all k.program k.plan s to_do
  pub sees : Sees k s i earlier c.cells
  pub size_is : length c.cells ≡ size k.program
  pub wide : s ≤ suc (length c.lists)

-- from one turn to another by so many steps for an event: each step adds a word or takes one
pub record Moved (k : Epoch) (s steps : ℕ) (event : Event) (c d : Turn) : Type 0 where
  pub own : d.own ≡ c.own ++ words_for k.program k.plan s event
  pub closing : d.closing ≡ (c.closing || closes_at (first_site k.program k.plan) event.site event.effect)
  pub lists : (t : ℕ) → 0 < t → t < s → word_list c.lists t ≡ words_for k.program k.plan t event ++ word_list d.lists t
  pub paid : steps + length c.own + sum_by length d.lists ≤ length d.own + sum_by length c.lists

-- A stage after one step of the source.
pub record Advanced (k : Epoch) (i s : ℕ) (to_do : List Stmt) (earlier : List Past) (event : Event) (c : Turn) : Type 0 where
  pub turn : Turn
  pub steps : ℕ
  pub few : steps ≤ 1
  pub runs : (m n : ℕ) → m ≡ steps + n → turn_from k.program k.plan k.input s m c ≡ turn_from k.program k.plan k.input s n turn
  pub in_step : InStep k i s to_do earlier turn
  pub moved : Moved k s steps event c turn

-- The head as a stage has it is the source's, but for its parts.
module _ (p : Program) (plan : Plan) (s : ℕ) where
  pub site_proj : (h : Stmt-F Stmt) → site_of (proj_head p plan s h) ≡ site_of h
  site_proj (If site cond a b) = refl
  site_proj (While site cond a) = refl
  site_proj _ = refl

  pub evaluated_proj : (input cells : List ℤ) (h : Stmt-F Stmt) → evaluated p input cells (proj_head p plan s h) ≡ evaluated p input cells h
  evaluated_proj input cells (If site cond a b) = refl
  evaluated_proj input cells (While site cond a) = refl
  evaluated_proj input cells _ = refl

  effect_proj : (h : Stmt-F Stmt) (w : Word) → effect_by p (proj_head p plan s h) w ≡ effect_by p h w
  effect_proj (If site cond a b) w = refl
  effect_proj (While site cond a) w = refl
  effect_proj _ w = refl

module _ {k : Epoch} (ok : Fit k) {i : ℕ} {x : Stmt} {rest : List Stmt} {earlier : List Past} {cells : List ℤ}
    (at : Stands k i (x ∷ rest) earlier cells) (s : ℕ) where
  open k use {program, plan, input}

  -- the statement, its head and the rest as the stage has them
  abbrev pub here : Stmt-F Stmt
  here = proj_head program plan s (out-Stmt x)

  abbrev pub staying : Stmt
  staying = roll-Stmt here

  abbrev pub onward : List Stmt
  onward = project_all program plan s rest

  abbrev site_same : site_of here ≡ site_of (out-Stmt x)
  site_same = site_proj program plan s (out-Stmt x)

  stage_same : stage_at program plan here ≡ stage_for k x
  stage_same = ap (λ (n : SiteId). stage_of program plan n.0) site_same

  staged : 0 < stage_for k x
  staged = (own_site ok at).staged

  module _ (c : Turn) (b : InStep k i s (x ∷ rest) earlier c) where
    abbrev pub after : WithLoads Effect → List Stmt
    after v = followed x rest (out-Stmt x) (value_of v.value)

    module _ (early : stage_for k x ≤ s) where
      stays : project program plan s x ≡ staying ∷ []
      stays = stays_there program plan s x (head_well ok at) early

      pub head_is : c.to_do ≡ staying ∷ onward
      head_is = b.to_do_is ∙ ap (λ ys. ys ++ onward) stays

      turn_head : (d : Turn) → turn_step program plan input s c staying onward here ≡ Ok d → (m n : ℕ) → m ≡ 1 + n →
          turn_from program plan input s m c ≡ turn_from program plan input s n d
      unfolding turn_from
      turn_head d made m n e = let one : m ≡ suc n = omega (arith, e) in rw (one, head_is, out-roll-Stmt here, made)

      -- a turn whose memory has the event's store stands where the source does
      stands_on : (v : WithLoads Effect) → Form program (out-Stmt x) v.value → (own : List Word) (lists : List (List Word)) → s ≤ suc (length lists) →
          InStep k i s (after v) (past_of i x v ∷ earlier) (turned program plan c staying onward here v.value own lists)
      stands_on v form own lists wide = record {
        to_do_is = kept_followed program plan s x staying rest (out-Stmt x) (value_of v.value) (head_well ok at)
            (and_parts (well_nested program plan x) (all_well program plan rest) at.well).1 stays;
        sees = sees_stored k s i earlier c.cells (event_of (out-Stmt x) v) (omega (arith, early)) (λ cell value e. subst (λ (n : ℕ). cell < n) (sym b.size_is)
            (store_within ok at v form cell value e)) b.sees;
        size_is = stored-length v.value c.cells ∙ b.size_is;
        wide = wide;
      }

      closes : (v : WithLoads Effect) → (c.closing || closes_at (first_site program plan) (site_of here).0 v.value)
          ≡ (c.closing || closes_at (first_site program plan) (site_of (out-Stmt x)).0 v.value)
      closes v = ap (λ (n : SiteId). c.closing || closes_at (first_site program plan) n.0 v.value) site_same

    -- At its own site the stage adds the event's words.
    own_step_made : (v : WithLoads Effect) (at_s : stage_for k x ≡ s) → Gives k c.cells x v →
        length (c.own ++ words_for program plan s (event_of (out-Stmt x) v)) ≤ plan.words →
        turn_step program plan input s c staying onward here ≡ Ok (turned program plan c staying onward here v.value
        (c.own ++ words_for program plan s (event_of (out-Stmt x) v)) c.lists)
    own_step_made v at_s gave fits =
        let mine = words_here program plan s (event_of (out-Stmt x) v) at_s in
        rw (
          eq-eqb (stage_at program plan here) s (stage_same ∙ at_s),
          evaluated_proj program plan s input c.cells (out-Stmt
              x),
          gave,
          site_same,
          mine,
          le-leb _ _ (rw mine at fits),
        )

    own_advance : (v : WithLoads Effect) → stage_for k x ≡ s → Gives k c.cells x v → Form program (out-Stmt x) v.value →
        length (c.own ++ words_for program plan s (event_of (out-Stmt x) v)) ≤ plan.words →
        Advanced k i s (after v) (past_of i x v ∷ earlier) (event_of (out-Stmt x) v) c
    own_advance v at_s gave form fits = record {
      turn = turned program plan c staying onward here v.value (c.own ++ words_for program plan s (event_of (out-Stmt x) v)) c.lists;
      steps = 1;
      few = omega arith;
      runs = turn_head (omega (arith, at_s)) _ (own_step_made v at_s gave fits);
      in_step = stands_on (omega (arith, at_s)) v form _ c.lists b.wide;
      moved = record {
        own = refl;
        closing = closes (omega (arith, at_s)) v;
        lists = λ t low high. sym (ap (λ ws. ws ++ word_list c.lists t) (words_elsewhere program plan t (event_of (out-Stmt x) v)
            (λ e. omega (arith, at_s, e, high))));
        paid = omega (
          arith,
          length-append c.own (words_for program plan s (event_of (out-Stmt x) v)),
          ap length (words_here program plan s
              (event_of (out-Stmt x) v) at_s),
          some_word program plan (event_of (out-Stmt x) v),
        );
      };
    }

    -- At an earlier stage's site the event's words are taken.
    module _ (v : WithLoads Effect) (before : stage_for k x < s) (form : Form program (out-Stmt x) v.value) (more : List Word)
        (front : word_list c.lists (stage_for k x) ≡ words_of program plan (event_of (out-Stmt x) v) ++ more) where
      abbrev pub taking : Taken
      taking = record { effect = v.value; rest = more }

      pub left_is : words_left program plan c here ≡ words_of program plan (event_of (out-Stmt x) v) ++ more
      left_is = ap (word_list c.lists) stage_same ∙ front

      pub taken_is : taken_from program here (words_left program plan c here) ≡ Ok taking
      taken_is = ap (taken_from program here) left_is ∙ taken_event program plan (event_of (out-Stmt x) v) more here (ap (λ (n : SiteId). n.0) (sym site_same))
          (effect_proj program plan s (out-Stmt x) _ ∙ effect_of_word program (out-Stmt x) (site_of (out-Stmt x)).0 v.value form)

      abbrev lists_then : List (List Word)
      lists_then = slice_set c.lists (stage_at program plan here - 1) more

      pub consumed_stands : InStep k i s (after v) (past_of i x v ∷ earlier) (consumed program plan c staying onward here taking)
      consumed_stands = stands_on (omega (arith, before)) v form c.own lists_then
          (subst (λ (n : ℕ). s ≤ suc n) (sym (length-set c.lists (stage_at program plan here - 1) more)) b.wide)

      pub consumed_moved : Moved k s 1 (event_of (out-Stmt x) v) c (consumed program plan c staying onward here taking)
      consumed_moved = record {
        own = sym (ap (λ ws. c.own ++ ws) (words_elsewhere program plan s (event_of (out-Stmt x) v) (λ e. omega (arith, e, before))) ∙ append-nil c.own);
        closing = closes (omega (arith, before)) v;
        lists = λ t low high. elim (cases_eq t (stage_at program plan here)) [
          | inl e ↦ rw (
            e,
            words_here program plan (stage_at program plan here) (event_of (out-Stmt x) v) (sym stage_same),
            word_list_same c.lists (stage_at
                program plan here) more low_here (omega (arith, b.wide, stage_same, before)),
          ) left_is
          | inr e ↦ rw (
            words_elsewhere program plan t (event_of (out-Stmt x) v) (λ q. e (sym q ∙ sym stage_same)),
            word_list_other c.lists (stage_at program
                plan here) t more low_here low e,
          )
        ];
        paid = omega (
          arith,
          sum_by-set length c.lists (stage_at program plan here - 1) more [] (omega (arith, low_here, b.wide, stage_same, before)),
          was,
          some_word program plan (event_of (out-Stmt x) v),
        );
      }
        where
          low_here : 0 < stage_at program plan here
          low_here = omega (arith, stage_same, staged)

          was : length (get_or c.lists (stage_at program plan here - 1) []) ≡ length (words_of program plan (event_of (out-Stmt x) v)) + length more
          was = ap length (sym (word_list_is c.lists (stage_at program plan here) low_here) ∙ left_is)
              ∙ length-append (words_of program plan (event_of (out-Stmt x) v)) more

      consumed_advance : Advanced k i s (after v) (past_of i x v ∷ earlier) (event_of (out-Stmt x) v) c
      consumed_advance = record {
        turn = consumed program plan c staying onward here taking;
        steps = 1;
        few = omega arith;
        runs = turn_head (omega (arith, before)) _ (rw (ne_eqb (stage_at program plan here) s (λ e. omega (arith, e, stage_same, before)), taken_is));
        in_step = consumed_stands;
        moved = consumed_moved;
      }

    -- A later stage's site isn't in the stage's text.
    later_advance : (v : WithLoads Effect) → s < stage_for k x → 0 < s → Form program (out-Stmt x) v.value →
        as_assumed program plan (site_of (out-Stmt x)).0 v.value ≡ true →
        Advanced k i s (after v) (past_of i x v ∷ earlier) (event_of (out-Stmt x) v) c
    later_advance v late real form told = record {
      turn = c;
      steps = 0;
      few = omega arith;
      runs = λ m n e. let same : m ≡ n = omega (arith, e) in ap (λ (u : ℕ). turn_from program plan input s u c) same;
      in_step = record {
        to_do_is = b.to_do_is ∙ unseen program plan s x rest (out-Stmt x) v.value (head_well ok at) (project_out program plan s x) late form
            (assumed_of program plan (site_of (out-Stmt x)).0 v.value told) real;
        sees = sees_later k s i earlier c.cells (event_of (out-Stmt x) v) late b.sees;
        size_is = b.size_is;
        wide = b.wide;
      };
      moved = record {
        own = sym (ap (λ ws. c.own ++ ws) (words_elsewhere program plan s (event_of (out-Stmt x) v) (λ e. omega (arith, e, late))) ∙ append-nil c.own);
        closing = rw (
          ne_eqb (site_of (out-Stmt x)).0 (first_site program plan)
              (λ e. let one : stage_for k x ≡ 1 = ap (stage_of program plan) e ∙ ok.accepted.staged in omega (arith, one, late, real)),
          late_stays program plan (site_of (out-Stmt x)).0 v.value (omega (arith, late, real))
              (assumed_of program plan (site_of (out-Stmt x)).0 v.value told).1,
          or-false c.closing,
        );
        lists = λ t low high. sym (ap (λ ws. ws ++ word_list c.lists t) (words_elsewhere program plan t (event_of (out-Stmt x) v)
            (λ e. omega (arith, e, late, high))));
        paid = omega arith;
      };
    }

    -- A stage goes on in step where its own evaluation is the source's and fits, or else the words stand at the front.
    pub advance : (v : WithLoads Effect) → 0 < s → Form program (out-Stmt x) v.value → as_assumed program plan (site_of (out-Stmt x)).0 v.value ≡ true →
        (stage_for k x ≡ s → Gives k c.cells x v) →
        length (c.own ++ words_for program plan s (event_of (out-Stmt x) v)) ≤ plan.words → (more : List Word) →
        (stage_for k x < s → word_list c.lists (stage_for k x) ≡ words_of program plan (event_of (out-Stmt x) v) ++ more) →
        Advanced k i s (after v) (past_of i x v ∷ earlier) (event_of (out-Stmt x) v) c
    advance v real form told gave fits more front = elim (cases_order (stage_for k x) s) [
      | inl e ↦ own_advance v e (gave e) form fits
      | inr (inl e) ↦ consumed_advance v e form more (front e)
      | inr (inr e) ↦ later_advance v e real form told
    ]
