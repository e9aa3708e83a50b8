-- A run that begins within `main` stays there.
use Rattle.std.proofs.Common.{◌≡◌, refl, sym, ap, ◌∙◌, subst, append_assoc, ℕ, zero, suc, Bool, true, false, if◌then◌else◌, List, [], ◌∷◌, ◌++◌, ℤ, pos, length}
use Rattle.std.proofs.Common.{Option, Some, None, inl, inr, slice_get, slice_set, Ok, Err, arith}
use Rattle.std.specs.List.{list_all}
use Rattle.std.proofs.lemmas.Bool.{cases_Bool}
use Rattle.std.proofs.lemmas.Option.{slice_get_within}
use Rattle.std.proofs.lemmas.List.{length-set}
use Rattle.std.proofs.lemmas.List.Folds.{list_all-append}
use Rattle.dp_base.specs.Arithmetic.{is_zero}
use Rattle.dp_base.specs.declared.SiteId.{SiteId}
use Rattle.dp_room.proofs.ListLemmas.{at_index}
use Rattle.dp_tree.specs.declared.Stmt.{Stmt, out-Stmt}
use Rattle.dp_tree.specs.declared.Stmt.TheOpen.{Stmt-F, If, While, Region, Break, Call}
use Rattle.dp_tree.specs.declared.VarInfo.{VarInfo}
use Rattle.dp_tree.specs.declared.Program.{Program}
use Rattle.dp_tree.specs.Eval.{Evaluated}
use Rattle.dp_tree.specs.Event.{Effect, Stored, Event, value_of, stored}
use Rattle.dp_tree.specs.Step.{Config, Stepped, choose, followed, behind_region, behind_one, region_number, clear_one, cleared_leaving, stored_by, after_effect}
use Rattle.dp_tree.specs.Step.{site_of, evaluated, is_local_of, clear_locals, cleared_at, standing, step_by, step_at, step}
use Rattle.dp_tree.specs.Trace.{run_of, start_cells, begin}
use Rattle.dp_tree.specs.Numbering.{is_inner, regions_in_order}
use Rattle.dp_tree.specs.RunLaws.{GoesByStep}
use Rattle.dp_tree.specs.InMain.{StandsInMain, StaysInMain}
use Rattle.dp_tree.proofs.Heads.{and_true, followed-append, taken, taken_left}
use Rattle.dp_tree.proofs.Inner.{plain_all, plain_choose, inner_all, inner_plain, inner_left, inner_followed, inner_out, top_at, is_top, all_top}
use Rattle.dp_tree.proofs.RunLaws.{runs_by_step}

pub stored_length : (effect : Effect) (cells : List ℤ) → length (stored effect cells) ≡ length cells
stored_length (Stored cell value) cells = length-set cells cell value
stored_length _ cells = refl

pub cleared_length : (r : ℕ) (vars : List VarInfo) (cells : List ℤ) → length (clear_locals r vars cells) ≡ length cells
cleared_length r [] cells = refl
cleared_length r (x ∷ xs) cells = cleared_length r xs (if is_local_of r x.scope then slice_set cells x.first.0 (pos 0) else cells) ∙ by (is_local_of r x.scope)
  where
    by : (b : Bool) → length (if b then slice_set cells x.first.0 (pos 0) else cells) ≡ length cells
    by true = length-set cells x.first.0 (pos 0)
    by false = refl

module _ (p : Program) (input : List ℤ) where
  next_by : (site : SiteId) (e : Evaluated Effect) (next_of : Effect → Config) (event : Event) (next : Config) → step_by p site e next_of ≡ Stepped event next →
      next ≡ next_of event.effect
  next_by site (Err kind) next_of event next e = absurd (cc)
  next_by site (Ok v) next_of event next e =
      let event_is : event ≡ record { site = site.0; loads = v.loads; effect = v.value } = cc in
      let next_is : next ≡ next_of v.value = cc in
      next_is ∙ ap next_of (sym (ap (λ (x : Event). x.effect) event_is))

  pub next_at : (x : Stmt) (rest : List Stmt) (cells : List ℤ) (h : Stmt-F Stmt) (event : Event) (next : Config) →
      step_at p input cells x rest h ≡ Stepped event next → next ≡ after_effect p x rest cells h event.effect
  next_at x rest cells (Call f line args) event next e = absurd (cc)
  next_at x rest cells h event next e = next_by (site_of h) (evaluated p input cells h) (after_effect p x rest cells h) event next e

  cleared_at_length : (h : Stmt-F Stmt) (cells : List ℤ) → length (cleared_at p h cells) ≡ length cells
  cleared_at_length (Region q site cond a) cells = cleared_length q p.vars cells
  cleared_at_length _ cells = refl

  leaving_length : (rest : List Stmt) (cells : List ℤ) → length (cleared_leaving p rest cells) ≡ length cells
  leaving_length [] cells = refl
  leaving_length (x ∷ rest) cells = by (region_number (out-Stmt x)) (leaving_length rest cells)
    where
      by : (o : Option ℕ) → length (cleared_leaving p rest cells) ≡ length cells → length (clear_one p o cells (cleared_leaving p rest cells)) ≡ length cells
      by None later = later
      by (Some r) later = cleared_length r p.vars cells

  pub stored_by_length : (rest : List Stmt) (h : Stmt-F Stmt) (effect : Effect) (cells : List ℤ) → length (stored_by p rest h effect cells) ≡ length cells
  stored_by_length rest (Break site cond) effect cells = by (is_zero (value_of effect))
    where
      by : (b : Bool) → length (if b then stored effect cells else cleared_leaving p rest (stored effect cells)) ≡ length cells
      by true = stored_length effect cells
      by false = leaving_length rest (stored effect cells) ∙ stored_length effect cells
  stored_by_length rest _ effect cells = stored_length effect cells

  -- what is behind a region among them ends them
  pub left_ends : (xs : List Stmt) → (front : List Stmt) × (xs ≡ front ++ behind_region xs)
  left_ends [] = ([], refl)
  left_ends (x ∷ xs) = by (region_number (out-Stmt x)) (left_ends xs)
    where
      by : (o : Option ℕ) → (front : List Stmt) × (xs ≡ front ++ behind_region xs) → (front : List Stmt)
          × (x ∷ xs ≡ front ++ behind_one o xs (behind_region xs))
      by None later = (x ∷ later.0, ap (λ (ys : List Stmt). x ∷ ys) later.1)
      by (Some r) later = (x ∷ [], refl)

  module _ (in_order : regions_in_order 1 p.main ≡ true) where
    -- what follows within `main` is within `main`
    pub record Follows (to_do : List Stmt) : Type 0 where
      pub inner : List Stmt
      pub before : List Stmt
      pub behind : List Stmt
      pub main_is : p.main ≡ before ++ behind
      pub plain : inner_all inner ≡ true
      pub is : to_do ≡ inner ++ behind

    there : (inner before behind : List Stmt) → p.main ≡ before ++ behind → inner_all inner ≡ true → Follows (inner ++ behind)
    there inner before behind main_is plain = record { inner = inner; before = before; behind = behind; main_is = main_is; plain = plain; is = refl }

    -- at the top of `main`
    top_follows : (x : Stmt) (before rest : List Stmt) (h : Stmt-F Stmt) (z : ℤ) → p.main ≡ before ++ x ∷ rest → top_at h ≡ true → Follows (followed x rest h z)
    top_follows x before rest h z main_is top = by h top
      where
        beyond : p.main ≡ (before ++ x ∷ []) ++ rest
        beyond = main_is ∙ sym (append_assoc before (x ∷ []) rest)

        looped : (a : List Stmt) → inner_all a ≡ true → (t : Bool) → Follows (if t then rest else a ++ x ∷ rest)
        looped a w true = there [] (before ++ x ∷ []) rest beyond refl
        looped a w false = there a before (x ∷ rest) main_is w

        by : (h : Stmt-F Stmt) → top_at h ≡ true → Follows (followed x rest h z)
        by (If site cond a b) w = let both = and_true (plain_all a) (plain_all b) w in
            there (choose z a b) (before ++ x ∷ []) rest beyond (inner_plain (choose z a b) (plain_choose z a b both.0 both.1))
        by (While site cond a) w = looped a (inner_plain a w) (is_zero z)
        by (Region q site cond a) w = looped a w (is_zero z)
        by (Break site cond) w = absurd (cc)
        by _ w = there [] (before ++ x ∷ []) rest beyond refl

    follows : (inner before behind : List Stmt) (x : Stmt) (rest : List Stmt) (z : ℤ) → p.main ≡ before ++ behind → inner_all inner ≡ true →
        inner ++ behind ≡ x ∷ rest → Follows (followed x rest (out-Stmt x) z)
    follows [] before behind x rest z main_is plain e =
        let main = main_is ∙ ap (λ (ys : List Stmt). before ++ ys) e in
        let tops = and_true (list_all is_top before) (list_all is_top (x ∷ rest)) (sym (list_all-append is_top before (x ∷ rest))
        ∙ ap (list_all is_top) (sym main) ∙ all_top 1 p.main in_order) in
        top_follows x before rest (out-Stmt x) z main (and_true (is_top x) (list_all is_top rest) tops.1).0
    follows (y ∷ inner) before behind x rest z main_is plain e =
        let here : y ≡ x = cc in let more : inner ++ behind ≡ rest = cc in let both = and_true (is_inner y) (inner_all inner) plain in
        let one : is_inner x ≡ true = ap is_inner (sym here) ∙ both.0 in
        subst (λ (ys : List Stmt). Follows (followed x ys (out-Stmt x) z)) more (elim (cases_Bool (taken (out-Stmt x) z)) [
          | inl t ↦
              let ends = left_ends behind in
              subst Follows (sym (taken_left x (inner ++ behind) (out-Stmt x) z t ∙ inner_left inner behind both.1))
              (there [] (before ++ ends.0) (behind_region behind) (main_is ∙ ap (λ (ys : List Stmt). before ++ ys) ends.1
              ∙ sym (append_assoc before ends.0 (behind_region behind))) refl)
          | inr t ↦
              subst Follows (sym (followed-append x inner behind (out-Stmt x) z t))
              (there (followed x inner (out-Stmt x) z) before behind main_is (inner_followed x inner (out-Stmt x) z t one (sym (inner_out x) ∙ one) both.1))
        ])

    -- one step
    pub stands_next : (c d : Config) (event : Event) → StandsInMain p c → step p input c ≡ Stepped event d → StandsInMain p d
    stands_next c d event s e = by (s.inner ++ s.behind) refl
      where
        from : (to_do : List Stmt) → s.inner ++ s.behind ≡ to_do → step p input (standing p to_do s.cells) ≡ Stepped event d
        from to_do is = ap (λ (ys : List Stmt). step p input (standing p ys s.cells)) (sym is) ∙ ap (step p input) (sym s.config_is) ∙ e

        by : (to_do : List Stmt) → s.inner ++ s.behind ≡ to_do → StandsInMain p d
        by [] is = let clash = from [] is in absurd (cc clash)
        by (x ∷ rest) is =
            let q = follows s.inner s.before s.behind x rest (value_of event.effect) s.main_is s.plain is in
            let next = next_at x rest (cleared_at p (out-Stmt x) s.cells) (out-Stmt x) event d (from (x ∷ rest) is) in
            record {
              inner = q.inner;
              before = q.before;
              behind = q.behind;
              cells = stored_by p rest (out-Stmt x) event.effect (cleared_at p (out-Stmt x) s.cells);
              main_is = q.main_is;
              plain = q.plain;
              config_is = next ∙ ap (λ (ys : List Stmt). standing p ys (stored_by p rest (out-Stmt x) event.effect (cleared_at p (out-Stmt x) s.cells))) q.is;
              cells_are = stored_by_length rest (out-Stmt x) event.effect (cleared_at p (out-Stmt x) s.cells)
                  ∙ cleared_at_length (out-Stmt x) s.cells ∙ s.cells_are;
            }

    pub stays_in_main : StaysInMain p input
    stays_in_main fuel k c d s at = walk k d at
      where
        steps : GoesByStep p input fuel c (run_of p input fuel c)
        steps = runs_by_step p input fuel c

        walk : (k : ℕ) (d : Config) → slice_get (run_of p input fuel c).configs k ≡ Some d → StandsInMain p d
        walk zero d at = let same : c ≡ d = cc (at, steps.first) in subst (StandsInMain p) same s
        walk (suc k) d at =
            let high = slice_get_within (run_of p input fuel c).configs (suc k) d at in
            let before = at_index (run_of p input fuel c).configs k (omega (arith, high)) in
            let event = at_index (run_of p input fuel c).trace k (omega (arith, high, steps.one_more)) in
            stands_next before.0 d event.0 (walk k before.0 before.1) (steps.each k before.0 d event.0 before.1 event.1 at)

pub begins_in_main : (p : Program) → StandsInMain p (begin p)
begins_in_main p = record {
  inner = [];
  before = [];
  behind = p.main;
  cells = start_cells p.vars;
  main_is = refl;
  plain = refl;
  config_is = refl;
  cells_are = refl;
}
