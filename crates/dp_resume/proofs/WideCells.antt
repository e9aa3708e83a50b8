-- The memory of a run holds numbers of 64 bits.
use Rattle.std.proofs.Common.{◌≡◌, inl, inr, refl, sym, ap, ◌∙◌, subst, ℕ, zero, suc, ◌+◌, ◌^◌, ◌<◌, Bool, true, ◌&&◌, List, [], ◌∷◌, ℤ, pos, length, replicate}
use Rattle.std.proofs.Common.{Some, slice_get, slice_set, Ok, Err, get_or-set_other, length-set, arith}
use Rattle.std.proofs.lemmas.Grind.{get_or-set_at}
use Rattle.std.proofs.lemmas.List.{get_or_past}
use Rattle.std.specs.List.{list_all}
use Rattle.std.proofs.lemmas.Bool.{and_parts, cases_eq, cases_lt}
use Rattle.std.proofs.lemmas.List.Folds.{list_all-append}
use Rattle.dp_base.specs.Arithmetic.{fits}
use Rattle.dp_text.specs.Each.{Each}
use Rattle.dp_tree.specs.declared.Stmt.{Stmt, out-Stmt, roll-Stmt, roll-out-Stmt}
use Rattle.dp_tree.specs.declared.Stmt.TheViews.{rolls-Assign, rolls-Store}
use Rattle.dp_tree.specs.declared.Stmt.TheOpen.{Stmt-F, Assign, Store, Print, If, While, Region, Break, Call}
use Rattle.dp_tree.specs.declared.Program.{Program}
use Rattle.dp_tree.specs.declared.VarInfo.{VarInfo}
use Rattle.dp_tree.specs.Eval.{Evaluated, and_then, cell_count, eval, first_cell, just, place}
use Rattle.dp_tree.specs.Event.{Effect, Stored, Printed, Decided, Tried, Event, stored, value_of}
use Rattle.dp_tree.specs.Step.{Config, Stepped, evaluated, step, step_from}
use Rattle.dp_tree.specs.Trace.{begin, run_of, start_cells}
use Rattle.dp_tree.specs.Statements.{everywhere}
use Rattle.dp_tree.proofs.Heads.{and_make, not_stepped, standing_to_do, stepped}
use Rattle.dp_tree.proofs.InMain.{next_at}
use Rattle.dp_calls.specs.AtHome.{expr_fits, numbers_fit, site_fits, start_fits}
use Rattle.dp_resume.proofs.EvalFits.{AllWide, Gives, IsWide, eval_fits, gives_any, gives_just, gives_then}
use Rattle.dp_resume.proofs.KeptCells.{all_along, effect_at, kept_after, kept_standing}
use Rattle.dp_resume.proofs.TestedHeads.{all_pass, own_passes, pass_followed}

-- ---- a list of numbers, element by element

pub wide_each : (cells : List ℤ) → AllWide cells → Each (λ z. fits z ≡ true) cells
wide_each [] h = tt
wide_each (z ∷ cells) h = (h 0, wide_each cells (λ c. h (suc c)))

pub each_wide : (cells : List ℤ) → Each (λ z. fits z ≡ true) cells → AllWide cells
each_wide [] h c = refl
each_wide (z ∷ cells) h zero = h.0
each_wide (z ∷ cells) h (suc c) = each_wide cells h.1 c

tested_wide : (cells : List ℤ) → list_all fits cells ≡ true → AllWide cells
tested_wide [] h c = refl
tested_wide (z ∷ cells) h zero = (and_parts (fits z) (list_all fits cells) h).0
tested_wide (z ∷ cells) h (suc c) = tested_wide cells (and_parts (fits z) (list_all fits cells) h).1 c

set_wide : (cells : List ℤ) (c : ℕ) (z : ℤ) → fits z ≡ true → AllWide cells → AllWide (slice_set cells c z)
set_wide cells c z w h d = elim (cases_eq d c) [
  | inl same ↦ elim (cases_lt c (length cells)) [
    | inl within ↦ ap fits (get_or-set_at cells c d z (pos 0) same within) ∙ w
    | inr past ↦ ap fits (get_or_past (slice_set cells c z) d (pos 0) (omega (arith, past, same, length-set cells c z)))
  ]
  | inr other ↦ ap fits (get_or-set_other cells c d z (pos 0) other) ∙ h d
]

zeroed_wide : (cells : List ℤ) (c : ℕ) → AllWide cells → AllWide (slice_set cells c (pos 0))
zeroed_wide cells c h = set_wide cells c (pos 0) refl h

-- ---- the start

same_wide : (n : ℕ) (z : ℤ) → fits z ≡ true → list_all fits (replicate n z) ≡ true
same_wide zero z w = refl
same_wide (suc n) z w = and_make (fits z) (list_all fits (replicate n z)) w (same_wide n z w)

starts_wide : (vars : List VarInfo) → list_all start_fits vars ≡ true → list_all fits (start_cells vars) ≡ true
starts_wide [] h = refl
starts_wide (x ∷ xs) h =
    let both = and_parts (start_fits x) (list_all start_fits xs) h in
    list_all-append fits (replicate x.length x.start) (start_cells xs)
    ∙ and_make (list_all fits (replicate x.length x.start)) (list_all fits (start_cells xs)) (same_wide x.length x.start both.0) (starts_wide xs both.1)

-- ---- a step

-- what is stored fits
pub StoresWide : Effect → Type 0
StoresWide (Stored c z) = fits z ≡ true
StoresWide _ = Unit {0}

stored_wide : (effect : Effect) (cells : List ℤ) → StoresWide effect → AllWide cells → AllWide (stored effect cells)
unfolding StoresWide
stored_wide (Stored c z) cells w h = set_wide cells c z w h
stored_wide (Printed z) cells w h = h
stored_wide (Decided z) cells w h = h
stored_wide (Tried z) cells w h = h

-- the numbers that the head stores fit
abbrev head_fits : Stmt-F Stmt → Bool
head_fits (Assign site x e) = expr_fits e
head_fits (Store site x index e) = expr_fits index && expr_fits e
head_fits _ = true

fits_roll : (h : Stmt-F Stmt) → site_fits (roll-Stmt h) ≡ true → head_fits h ≡ true
fits_roll (Assign site x e) w = sym (ap site_fits (rolls-Assign site x e)) ∙ w
fits_roll (Store site x index e) w = sym (ap site_fits (rolls-Store site x index e)) ∙ w
fits_roll _ w = refl

fits_out : (x : Stmt) → site_fits x ≡ true → head_fits (out-Stmt x) ≡ true
fits_out x w = fits_roll (out-Stmt x) (ap site_fits (roll-out-Stmt x) ∙ w)

module _ (p : Program) (input : List ℤ) (few : length input < 2 ^ 63) (read : AllWide input) where
  -- another effect than a store
  none_stored : (f : ℤ → Effect) → ((z : ℤ) → StoresWide (f z)) → (e : Evaluated ℤ) → Gives StoresWide (and_then e (λ z. just (f z)))
  unfolding Gives
  none_stored f h (Ok v) = h v.value
  none_stored f h (Err kind) = tt

  evaluated_wide : (cells : List ℤ) → AllWide cells → (h : Stmt-F Stmt) → head_fits h ≡ true → Gives StoresWide (evaluated p input cells h)
  unfolding StoresWide Gives
  evaluated_wide cells wide (Assign site x e) w =
      gives_then IsWide StoresWide _ _ (eval_fits p input few read cells wide e w) (λ z v. gives_just StoresWide (Stored (first_cell p x) z) v)
  evaluated_wide cells wide (Store site x index e) w =
      let both = and_parts (expr_fits index) (expr_fits e) w in
      gives_then IsWide StoresWide _ _ (eval_fits p input few read cells wide index both.0)
      (λ i u. gives_then IsWide StoresWide _ _ (eval_fits p input few read cells wide e both.1)
      (λ z v. gives_then (λ (k : ℕ). Unit {0}) StoresWide _ _ (gives_any (place i (cell_count p x)))
      (λ k t. gives_just StoresWide (Stored (first_cell p x + k) z) v)))
  evaluated_wide cells wide (Print site e) w = none_stored Printed (λ z. tt) (eval p input cells e)
  evaluated_wide cells wide (If site cond a b) w = none_stored Decided (λ z. tt) (eval p input cells cond)
  evaluated_wide cells wide (While site cond a) w = none_stored Decided (λ z. tt) (eval p input cells cond)
  evaluated_wide cells wide (Region q site cond a) w = none_stored Decided (λ z. tt) (eval p input cells cond)
  evaluated_wide cells wide (Break site cond) w = none_stored Tried (λ z. tt) (eval p input cells cond)
  evaluated_wide cells wide (Call f line args) w = tt

  -- a memory of such numbers, and such numbers in what is left to do
  record Wide (c : Config) : Type 0 where
    cells : AllWide c.cells
    to_do : all_pass site_fits c.to_do ≡ true

  wide_next : (c d : Config) (event : Event) → Wide c → step p input c ≡ Stepped event d → Wide d
  wide_next c d event w e = by c.to_do refl
    where
      by : (to_do : List Stmt) → c.to_do ≡ to_do → Wide d
      by [] is = not_stepped p input c event d is e
      by (x ∷ rest) is =
          let from = sym (ap (λ (xs : List Stmt). step_from p input c.cells xs) is) ∙ e in
          let left = sym (ap (all_pass site_fits) is) ∙ w.to_do in
          let own = own_passes site_fits x (and_parts (everywhere site_fits x) (all_pass site_fits rest) left).0 in
          let wide = effect_at p input StoresWide x rest c.cells (out-Stmt x) event d from (evaluated_wide c.cells w.cells (out-Stmt x) (fits_out x own)) in
          record {
            cells = subst (λ (u : Config). AllWide u.cells) (sym (next_at p input x rest c.cells (out-Stmt x) event d from))
                (kept_after p AllWide zeroed_wide x rest (out-Stmt x) event.effect c.cells (stored_wide event.effect c.cells wide w.cells));
            to_do = ap (all_pass site_fits) (stepped p input c x rest event d is e).to_do ∙ pass_followed site_fits x rest (value_of event.effect) left;
          }

  module _ (fit : numbers_fit p ≡ true) where
    numbers : (list_all start_fits p.vars ≡ true) × (all_pass site_fits p.main ≡ true)
    numbers = and_parts (list_all start_fits p.vars) (all_pass site_fits p.main) fit

    begins_wide : Wide (begin p)
    begins_wide = record {
      cells = kept_standing p AllWide zeroed_wide p.main (start_cells p.vars) (tested_wide (start_cells p.vars) (starts_wide p.vars numbers.0));
      to_do = ap (all_pass site_fits) (standing_to_do p p.main (start_cells p.vars)) ∙ numbers.1;
    }

    pub cells_wide : (fuel k : ℕ) (d : Config) → slice_get (run_of p input fuel (begin p)).configs k ≡ Some d → AllWide d.cells
    cells_wide fuel k d at = (all_along p input Wide wide_next fuel k (begin p) d begins_wide at).cells
