-- Wherever a run stands, the locals of all regions' bodies read 0 but those of the one in which it stands.
use Rattle.std.proofs.Common.{◌≡◌, ◌⊎◌, inl, inr, refl, sym, ap, ◌∙◌, subst, append_assoc, ℕ, Bool, true, false, if◌then◌else◌, List, [], ◌∷◌, ◌++◌, ℤ, length}
use Rattle.std.proofs.Common.{Some, slice_get, eq-eqb}
use Rattle.std.specs.List.{list_all}
use Rattle.std.proofs.lemmas.Bool.{and_parts, cases_Bool}
use Rattle.std.proofs.lemmas.List.Folds.{list_all-append}
unfoldable use Rattle.dp_base.specs.Arithmetic.{is_zero}
use Rattle.dp_tree.specs.declared.Stmt.{Stmt, out-Stmt}
use Rattle.dp_tree.specs.declared.Stmt.TheOpen.{Stmt-F, If, While, Region, Break}
use Rattle.dp_tree.specs.declared.Program.{Program}
use Rattle.dp_tree.specs.Event.{Event, stored, value_of}
use Rattle.dp_tree.specs.Inlined.{IsInlined, names_within}
use Rattle.dp_tree.specs.Iteration.{begins_with, is_region, stands_at_head}
use Rattle.dp_tree.specs.Numbering.{is_inner}
use Rattle.dp_tree.specs.Statements.{everywhere}
use Rattle.dp_tree.specs.Step.{Config, Stepped, after_effect, behind_region, choose, followed, standing, step, step_from, stored_by}
use Rattle.dp_tree.specs.Trace.{begin, run_of, start_cells}
use Rattle.dp_tree.proofs.Heads.{followed-append, not_stepped, standing_to_do, stepped, taken, taken_left}
use Rattle.dp_tree.proofs.InMain.{left_ends, next_at}
use Rattle.dp_tree.proofs.Inner.{all_top, inner_all, inner_at, inner_followed, inner_left, inner_out, inner_plain, is_top, plain_all, plain_choose, top_at}
use Rattle.dp_calls.specs.AtHome.{stores_at_home, stores_home, stores_home_at_top}
use Rattle.dp_calls.specs.Starts.{locals_start_clear}
use Rattle.dp_resume.proofs.LocalStarts.{but_none, starts_zero}
use Rattle.dp_resume.proofs.ClearedHeads.{head_region, standing_clears, taken_clears, top_out}
use Rattle.dp_resume.proofs.HomeStores.{StoresHome, evaluated_home, head_home, home_out, named_out, stored_clear}
use Rattle.dp_resume.proofs.KeptCells.{all_along, effect_at, kept_after, kept_standing, kept_storing}
use Rattle.dp_resume.proofs.OwnCells.{AllClear, ClearBut, all_but, then_all, zeroed_all, zeroed_clear}
use Rattle.dp_resume.proofs.TestedHeads.{all_pass, inside_out, inside_passes, own_passes, pass_choose, pass_followed}

-- ---- where a run stands

-- the statements that are left of a region's body have that region behind them; those of other statements count as region 0's
abbrev Leads : ℕ → List Stmt → List Stmt → Type 0
Leads r [] behind = r ≡ 0
Leads r (x ∷ inner) behind = (r ≡ 0) ⊎ (begins_with r behind ≡ true)

leads_zero : (inner behind : List Stmt) → Leads 0 inner behind
leads_zero [] behind = refl
leads_zero (x ∷ inner) behind = inl refl

module _ (p : Program) where
  -- what is left to do: of a statement at the top of `main`, and of `main` behind it
  record Left (to_do : List Stmt) (r : ℕ) : Type 0 where
    inner : List Stmt
    before : List Stmt
    behind : List Stmt
    main_is : p.main ≡ before ++ behind
    is : to_do ≡ inner ++ behind
    plain : inner_all inner ≡ true
    home : all_pass (stores_home p.vars r) inner ≡ true
    leads : Leads r inner behind

  -- .. and the locals of other regions read 0
  record Home (c : Config) : Type 0 where
    region : ℕ
    left : Left c.to_do region
    clear : ClearBut region p.vars c.cells
    named : all_pass (names_within (length p.vars)) c.to_do ≡ true

  -- between two statements of `main`
  between : (before behind : List Stmt) → p.main ≡ before ++ behind → Left behind 0
  between before behind main_is = record { inner = []; before = before; behind = behind; main_is = main_is; is = refl; plain = refl; home = refl; leads = refl }

  -- within a statement that is no region
  within : (inner before behind : List Stmt) → p.main ≡ before ++ behind → inner_all inner ≡ true → all_pass (stores_home p.vars 0) inner ≡ true →
      Left (inner ++ behind) 0
  within inner before behind main_is plain home =
      record { inner = inner; before = before; behind = behind; main_is = main_is; is = refl; plain = plain; home = home; leads = leads_zero inner behind }

  -- what follows a statement at the top of `main`
  top_left : (x : Stmt) (before rest : List Stmt) (h : Stmt-F Stmt) (z : ℤ) → p.main ≡ before ++ x ∷ rest →
      ((q : ℕ) → is_region q (out-Stmt x) ≡ is_region q h) → top_at h ≡ true
      → inside_passes (stores_home p.vars (head_region h)) h ≡ true → (r : ℕ) × Left (followed x rest h z) r
  top_left x before rest h z main_is is top inside = by h is top inside
    where
      beyond : p.main ≡ (before ++ x ∷ []) ++ rest
      beyond = main_is ∙ sym (append_assoc before (x ∷ []) rest)

      looped : (a : List Stmt) → inner_all a ≡ true → all_pass (stores_home p.vars 0) a ≡ true → (t : Bool) → (r : ℕ)
          × Left (if t then rest else a ++ x ∷ rest) r
      looped a plain home true = (0, between (before ++ x ∷ []) rest beyond)
      looped a plain home false = (0, within a before (x ∷ rest) main_is plain home)

      entered : (q : ℕ) (a : List Stmt) → inner_all a ≡ true → all_pass (stores_home p.vars q) a ≡ true → begins_with q (x ∷ rest) ≡ true → (r : ℕ)
          × Left (a ++ x ∷ rest) r
      entered q [] plain home on = (0, between before (x ∷ rest) main_is)
      entered q (y ∷ a) plain home on =
          (q, record { inner = y ∷ a; before = before; behind = x ∷ rest; main_is = main_is; is = refl; plain = plain; home = home; leads = inr on })

      chosen : (q : ℕ) (a : List Stmt) → inner_all a ≡ true → all_pass (stores_home p.vars q) a ≡ true → begins_with q (x ∷ rest) ≡ true → (t : Bool) → (r : ℕ)
          × Left (if t then rest else a ++ x ∷ rest) r
      chosen q a plain home on true = (0, between (before ++ x ∷ []) rest beyond)
      chosen q a plain home on false = entered q a plain home on

      by : (h : Stmt-F Stmt) → ((q : ℕ) → is_region q (out-Stmt x) ≡ is_region q h) → top_at h ≡ true →
          inside_passes (stores_home p.vars (head_region h)) h ≡ true → (r : ℕ) × Left (followed x rest h z) r
      by (If site cond a b) is top inside =
          let both = and_parts (plain_all a) (plain_all b) top in
          let home = and_parts (all_pass (stores_home p.vars 0) a) (all_pass (stores_home p.vars 0) b) inside in (
            0,
            within (choose z a b) (before ++ x ∷ []) rest beyond (inner_plain (choose z a b) (plain_choose z a b both.0 both.1)) (pass_choose
                (stores_home p.vars 0) z a b home.0 home.1),
          )
      by (While site cond a) is top inside = looped a (inner_plain a top) inside (is_zero z)
      by (Region q site cond a) is top inside = chosen q a top inside (is q ∙ eq-eqb q q refl) (is_zero z)
      by (Break site cond) is top inside = absurd (cc top)
      by _ is top inside = (0, between (before ++ x ∷ []) rest beyond)

  -- what follows a statement of a region's body, or of what is left of another one
  inner_left_on : (r : ℕ) (ys before behind : List Stmt) → p.main ≡ before ++ behind → inner_all ys ≡ true → all_pass (stores_home p.vars r) ys ≡ true → (r ≡ 0)
      ⊎ (begins_with r behind ≡ true) → (q : ℕ) × Left (ys ++ behind) q × ((q ≡ r) ⊎ (ys ≡ []))
  inner_left_on r [] before behind main_is plain home leads = (0, between before behind main_is, inr refl)
  inner_left_on r (y ∷ ys) before behind main_is plain home leads =
      (r, record { inner = y ∷ ys; before = before; behind = behind; main_is = main_is; is = refl; plain = plain; home = home; leads = leads }, inl refl)

  module _ (input : List ℤ) (inlined : IsInlined p) (at_home : stores_at_home p ≡ true) (starts : locals_start_clear p ≡ true) where
    -- ---- one step

    module _ (c d : Config) (event : Event) (e : step p input c ≡ Stepped event d) (named : all_pass (names_within (length p.vars)) c.to_do ≡ true) (x : Stmt)
        (rest : List Stmt) (is : c.to_do ≡ x ∷ rest) where
      next : d ≡ after_effect p x rest c.cells (out-Stmt x) event.effect
      next = next_at p input x rest c.cells (out-Stmt x) event d (sym (ap (λ (xs : List Stmt). step_from p input c.cells xs) is) ∙ e)

      to_do_is : d.to_do ≡ followed x rest (out-Stmt x) (value_of event.effect)
      to_do_is = (stepped p input c x rest event d is e).to_do

      listed : all_pass (names_within (length p.vars)) (x ∷ rest) ≡ true
      listed = sym (ap (all_pass (names_within (length p.vars))) is) ∙ named

      named_next : all_pass (names_within (length p.vars)) d.to_do ≡ true
      named_next = ap (all_pass (names_within (length p.vars))) to_do_is ∙ pass_followed (names_within (length p.vars)) x rest (value_of event.effect) listed

      -- the store leaves the locals of other regions as they were
      kept_by_store : (r : ℕ) → head_home p.vars r (out-Stmt x) ≡ true → ClearBut r p.vars c.cells → ClearBut r p.vars (stored event.effect c.cells)
      kept_by_store r home clear =
          let own = own_passes (names_within (length p.vars)) x (and_parts (everywhere (names_within (length p.vars)) x)
          (all_pass (names_within (length p.vars)) rest) listed).0 in
          stored_clear r p.vars event.effect c.cells
          (effect_at p input (StoresHome r p.vars) x rest c.cells (out-Stmt x) event d (sym (ap (λ (xs : List Stmt). step_from p input c.cells xs) is) ∙ e)
          (evaluated_home p input inlined.cells c.cells r (out-Stmt x) home (named_out (length p.vars) x own)))
          clear

      kept_so : (r : ℕ) → ClearBut r p.vars (stored event.effect c.cells) → ClearBut r p.vars d.cells
      kept_so r clear = subst (λ (u : Config). ClearBut r p.vars u.cells) (sym next) (kept_after p (ClearBut r p.vars) (zeroed_clear r p.vars) x rest
          (out-Stmt x) event.effect c.cells clear)

      -- where nothing is left in front of a region's statement its locals are cleared
      cleared_next : (r : ℕ) (behind : List Stmt) → followed x rest (out-Stmt x) (value_of event.effect) ≡ behind → (r ≡ 0) ⊎ (begins_with r behind ≡ true) →
          ClearBut r p.vars (stored event.effect c.cells) → AllClear p.vars d.cells
      cleared_next r behind on (inl zero_is) clear = but_none p.vars starts d.cells (subst (λ (q : ℕ). ClearBut q p.vars d.cells) zero_is (kept_so r clear))
      cleared_next r behind on (inr head) clear =
          let cells = stored_by p rest (out-Stmt x) event.effect c.cells in
          subst (AllClear p.vars) (sym (ap (λ (u : Config). u.cells) next ∙ ap (λ (xs : List Stmt). (standing p xs cells).cells) on
          ∙ standing_clears p r behind cells head))
          (then_all r p.vars cells (kept_storing p (ClearBut r p.vars) (zeroed_clear r p.vars) rest (out-Stmt x) event.effect c.cells clear))

    module _ (c d : Config) (event : Event) (e : step p input c ≡ Stepped event d) (named : all_pass (names_within (length p.vars)) c.to_do ≡ true) where
      -- a step at the top of `main`
      top_next : (x : Stmt) (before rest : List Stmt) → p.main ≡ before ++ x ∷ rest → c.to_do ≡ x ∷ rest → ClearBut 0 p.vars c.cells → Home d
      top_next x before rest main_is is clear =
          let tops = and_parts (list_all is_top before) (list_all is_top (x ∷ rest)) (sym (list_all-append is_top before (x ∷ rest))
          ∙ ap (list_all is_top) (sym main_is) ∙ all_top 1 p.main inlined.regions) in
          let top = (and_parts (is_top x) (list_all is_top rest) tops.1).0 in
          let homes = and_parts (list_all (stores_home_at_top p.vars) before) (list_all (stores_home_at_top p.vars) (x ∷ rest))
          (sym (list_all-append (stores_home_at_top p.vars) before (x ∷ rest)) ∙ ap (list_all (stores_home_at_top p.vars)) (sym main_is) ∙ at_home) in
          let mine = (and_parts (stores_home_at_top p.vars x) (list_all (stores_home_at_top p.vars) rest) homes.1).0 in
          let own : everywhere (stores_home p.vars (head_region (out-Stmt x))) x ≡ true = ap (λ (q : ℕ). everywhere (stores_home p.vars q) x)
          (sym (top_out x)) ∙ mine in
          let on = top_left x before rest (out-Stmt x) (value_of event.effect) main_is (λ q. refl) top
          (inside_out (stores_home p.vars (head_region (out-Stmt x))) x own) in
          let kept = kept_by_store c d event e named x rest is 0
          (outside (out-Stmt x) (home_out p.vars (head_region (out-Stmt x)) x (own_passes (stores_home p.vars (head_region (out-Stmt x))) x own))) clear in
          record {
            region = on.0;
            left = subst (λ (xs : List Stmt). Left xs on.0) (sym (to_do_is c d event e named x rest is)) on.1;
            clear = all_but on.0 p.vars d.cells (but_none p.vars starts d.cells (kept_so c d event e named x rest is 0 kept));
            named = named_next c d event e named x rest is;
          }
        where
          outside : (h : Stmt-F Stmt) → head_home p.vars (head_region h) h ≡ true → head_home p.vars 0 h ≡ true
          outside (Region q site cond a) w = refl
          outside _ w = w

      -- a step within
      inner_next : (r : ℕ) (x : Stmt) (inner before behind : List Stmt) → p.main ≡ before ++ behind → c.to_do ≡ x ∷ (inner ++ behind) →
          inner_all (x ∷ inner) ≡ true → all_pass (stores_home p.vars r) (x ∷ inner) ≡ true
          → (r ≡ 0) ⊎ (begins_with r behind ≡ true) → ClearBut r p.vars c.cells → Home d
      inner_next r x inner before behind main_is is plain home leads clear = elim (cases_Bool (taken (out-Stmt x) (value_of event.effect))) [
        | inl t ↦
            let ends = left_ends p input behind in
            record {
              region = 0;
              left = subst (λ (xs : List Stmt). Left xs 0) (sym (to_do_is c d event e named x (inner ++ behind) is
                  ∙ taken_left x (inner ++ behind) (out-Stmt x) (value_of event.effect) t ∙ inner_left inner behind plains.1))
                  (between (before ++ ends.0) (behind_region behind) (main_is ∙ ap (λ (ys : List Stmt). before ++ ys) ends.1
                  ∙ sym (append_assoc before ends.0 (behind_region behind))));
              clear = all_but 0 p.vars d.cells (left_clear t leads);
              named = named_next c d event e named x (inner ++ behind) is;
            }
        | inr t ↦
            let goes = followed-append x inner behind (out-Stmt x) (value_of event.effect) t in
            let ys = followed x inner (out-Stmt x) (value_of event.effect) in
            let on = inner_left_on r ys before behind main_is (inner_followed x inner (out-Stmt x) (value_of event.effect) t plains.0 (sym (inner_out x)
            ∙ plains.0) plains.1) (pass_followed (stores_home p.vars r) x inner (value_of event.effect) home) leads in
            record {
              region = on.0;
              left = subst (λ (xs : List Stmt). Left xs on.0) (sym (to_do_is c d event e named x (inner ++ behind) is ∙ goes)) on.1;
              clear = on_clear on.0 ys goes on.2;
              named = named_next c d event e named x (inner ++ behind) is;
            }
      ]
        where
          plains : (is_inner x ≡ true) × (inner_all inner ≡ true)
          plains = and_parts (is_inner x) (inner_all inner) plain

          kept : ClearBut r p.vars (stored event.effect c.cells)
          kept = kept_by_store c d event e named x (inner ++ behind) is r
              (home_out p.vars r x
              (own_passes (stores_home p.vars r) x (and_parts (everywhere (stores_home p.vars r) x) (all_pass (stores_home p.vars r) inner) home).0)) clear

          left_clear : taken (out-Stmt x) (value_of event.effect) ≡ true → (r ≡ 0) ⊎ (begins_with r behind ≡ true) → AllClear p.vars d.cells
          left_clear t (inl zero_is) =
              but_none p.vars starts d.cells (subst (λ (q : ℕ). ClearBut q p.vars d.cells) zero_is (kept_so c d event e named x (inner ++ behind) is r kept))
          left_clear t (inr head) =
              subst (λ (u : Config). AllClear p.vars u.cells) (sym (next c d event e named x (inner ++ behind) is))
              (kept_standing p (AllClear p.vars) (zeroed_all p.vars) (followed x (inner ++ behind) (out-Stmt x) (value_of event.effect))
              (stored_by p (inner ++ behind) (out-Stmt x) event.effect c.cells)
              (subst (AllClear p.vars) (sym (taken_clears p r inner behind (out-Stmt x) event.effect c.cells t plains.1 head))
              (then_all r p.vars (stored event.effect c.cells) kept)))

          on_clear : (q : ℕ) (ys : List Stmt) → followed x (inner ++ behind) (out-Stmt x) (value_of event.effect) ≡ ys ++ behind → (q ≡ r) ⊎ (ys ≡ []) →
              ClearBut q p.vars d.cells
          on_clear q ys goes (inl same) = subst (λ (k : ℕ). ClearBut k p.vars d.cells) (sym same) (kept_so c d event e named x (inner ++ behind) is r kept)
          on_clear q ys goes (inr none) =
              all_but q p.vars d.cells (cleared_next c d event e named x (inner ++ behind) is r behind (goes
              ∙ ap (λ (xs : List Stmt). xs ++ behind) none) leads kept)

    home_next : (c d : Config) (event : Event) → Home c → step p input c ≡ Stepped event d → Home d
    home_next c d event w e = by w.region w.left.inner w.left.before w.left.behind w.left.main_is w.left.is w.left.plain w.left.home w.left.leads w.clear
      where
        by : (r : ℕ) (inner before behind : List Stmt) → p.main ≡ before ++ behind → c.to_do ≡ inner ++ behind → inner_all inner ≡ true →
            all_pass (stores_home p.vars r) inner ≡ true → Leads r inner behind → ClearBut r p.vars c.cells → Home d
        by r [] before [] main_is is plain home leads clear = not_stepped p input c event d is e
        by r [] before (x ∷ rest) main_is is plain home leads clear =
            top_next c d event e w.named x before rest main_is is (subst (λ (q : ℕ). ClearBut q p.vars c.cells) leads clear)
        by r (x ∷ inner) before behind main_is is plain home leads clear =
            inner_next c d event e w.named r x inner before behind main_is is plain home leads clear

    -- ---- the start

    start_clear : AllClear p.vars (start_cells p.vars)
    start_clear = starts_zero p.vars inlined.cells starts

    begins_home : Home (begin p)
    begins_home = record {
      region = 0;
      left = subst (λ (xs : List Stmt). Left xs 0) (sym (standing_to_do p p.main (start_cells p.vars))) (between [] p.main refl);
      clear = all_but 0 p.vars (begin p).cells (kept_standing p (AllClear p.vars) (zeroed_all p.vars) p.main (start_cells p.vars) start_clear);
      named = ap (all_pass (names_within (length p.vars))) (standing_to_do p p.main (start_cells p.vars)) ∙ inlined.named;
    }

    -- ---- where a region comes next

    clear_there : (r : ℕ) (d : Config) → Home d → stands_at_head r d ≡ true → AllClear p.vars d.cells
    clear_there r d w on = by w.region w.left.inner w.left.behind w.left.is w.left.plain w.left.leads w.clear
      where
        inside : (h : Stmt-F Stmt) → inner_at h ≡ true → is_region r h ≡ true → ⊥
        inside (Region q site cond a) plain here = cc plain
        inside _ plain here = cc here

        by : (q : ℕ) (inner behind : List Stmt) → d.to_do ≡ inner ++ behind → inner_all inner ≡ true → Leads q inner behind → ClearBut q p.vars d.cells →
            AllClear p.vars d.cells
        by q [] behind is plain leads clear = but_none p.vars starts d.cells (subst (λ (k : ℕ). ClearBut k p.vars d.cells) leads clear)
        by q (x ∷ inner) behind is plain leads clear =
            absurd (inside (out-Stmt x) (sym (inner_out x) ∙ (and_parts (is_inner x) (inner_all inner) plain).0) (ap (begins_with r) (sym is) ∙ on))

    pub locals_clear : (fuel k r : ℕ) (d : Config) → slice_get (run_of p input fuel (begin p)).configs k ≡ Some d → stands_at_head r d ≡ true →
        AllClear p.vars d.cells
    locals_clear fuel k r d at on = clear_there r d (all_along p input Home home_next fuel k (begin p) d begins_home at) on
