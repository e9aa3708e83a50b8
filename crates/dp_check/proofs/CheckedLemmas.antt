-- What is so of a checked program: its cells, and the rest from the files before.
use Rattle.std.proofs.Common.{◌≡◌, refl, ℕ, ◌+◌, ◌==◌, Bool, true, false, ◌&&◌, List, [], ◌∷◌, ◌++◌, nat_lt, ◌||◌}
use Rattle.std.specs.List.{list_all, flat_map}
use Rattle.dp_tree.specs.declared.VarInfo.{VarInfo}
use Rattle.dp_tree.specs.declared.VarScope.{VarScope}
use Rattle.dp_tree.specs.declared.VarScope.TheVariants.{Global, Outer, Body}
use Rattle.dp_tree.specs.declared.raw.RawStmt.{RawStmt}
use Rattle.dp_tree.specs.declared.raw.RawItem.{RawItem}
use Rattle.dp_tree.specs.declared.raw.RawItem.TheVariants as item
use Rattle.dp_tree.specs.declared.raw.RawProgram.{RawProgram}
use Rattle.dp_check.specs.Place.{TextPart, Site, Local}
use Rattle.dp_check.specs.Tables.{laid, locals_of, globals, item_parts, outside, within, top_locals, after_top, main_locals, variables}
use Rattle.std.proofs.Common.{subst, Option, None, Ok}
use Rattle.dp_tree.specs.declared.Program.{Program}
use Rattle.dp_check.specs.declared.fail.CheckFail.{CheckFail}
use Rattle.dp_check.specs.Offence.{first_offence}
use Rattle.dp_check.specs.Answer.{unless}
use Rattle.dp_check.specs.CheckAnswer.{names_of, text_begin, main_begin, too_many_functions, too_many_cells, resolved, check_answer}
use Rattle.dp_tree.specs.Globals.{is_global_scope}
use Rattle.dp_tree.specs.Layout.{has_cells, lies_in_order}
use Rattle.dp_tree.specs.Checked.{IsChecked}
use Rattle.dp_check.specs.Checked.{has_length, breaks_fit, breaks_fit_at_top, is_unbroken_item}
use Rattle.dp_check.proofs.NumberLemmas.{sites_in_order}
use Rattle.dp_check.proofs.RoleLemmas.{sites_as_in_text}
use Rattle.dp_check.proofs.PlainLemmas.{regions_stand_in_order, functions_are_plain}
use Rattle.dp_check.proofs.BoolLemmas.{both_true, halves, same_number, all_of_both}
use Rattle.dp_check.proofs.GlobalLemmas.{globals_stand_first}
use Rattle.dp_check.proofs.ItemScopeLemmas.{resolved_in_scope}

laid_in_order : (k : ℕ) (xs : List VarInfo) → list_all has_cells xs ≡ true → lies_in_order k (laid k xs) ≡ true
laid_in_order k [] h = refl
laid_in_order k (x ∷ xs) h = by (has_cells x) h (laid_in_order (k + x.length) xs)
  where
    by : (c : Bool) → (c && list_all has_cells xs) ≡ true → (list_all has_cells xs ≡ true → lies_in_order (k + x.length) (laid (k + x.length) xs) ≡ true)
        → (((k == k) && c) && lies_in_order (k + x.length) (laid (k + x.length) xs)) ≡ true
    by true h next = both_true (both_true (same_number k) refl) (next h)
    by false h next = absurd (cc)

scope_cells : (scope : VarScope) → (is_global_scope scope || true) ≡ true
scope_cells Global = refl
scope_cells _ = refl

locals_have_cells : (scope : VarScope) (ps : List TextPart) → list_all has_cells (locals_of scope ps) ≡ true
locals_have_cells scope [] = refl
locals_have_cells scope (Site line k ∷ ps) = locals_have_cells scope ps
locals_have_cells scope (Local name ∷ ps) = both_true (scope_cells scope) (locals_have_cells scope ps)

globals_have_cells : (items : List RawItem) → list_all has_length items ≡ true → list_all has_cells (globals items) ≡ true
globals_have_cells [] h = refl
globals_have_cells (item.Scalar name start ∷ items) h = globals_have_cells items h
globals_have_cells (item.Array name size ∷ items) h = by (nat_lt 0 (Rattle.dp_check.specs.Tables.cells_in_length size)) h (globals_have_cells items)
  where
    by : (c : Bool) → (c && list_all has_length items) ≡ true → (list_all has_length items ≡ true → list_all has_cells (globals items) ≡ true)
        → ((c && true) && list_all has_cells (globals items)) ≡ true
    by true h next = next h
    by false h next = absurd (cc)
globals_have_cells (item.Function name params body ∷ items) h = globals_have_cells items h

main_have_cells : (r : ℕ) (all : List RawStmt) → list_all has_cells (main_locals r all) ≡ true
main_have_cells r [] = refl
main_have_cells r (s ∷ rest) =
    all_of_both has_cells (top_locals r s) (main_locals (after_top r s) rest)
    (all_of_both has_cells (locals_of Outer (outside s)) (locals_of (Body r) (within s)) (locals_have_cells Outer (outside s))
    (locals_have_cells (Body r) (within s)))
    (main_have_cells (after_top r s) rest)

items_have_cells : (items : List RawItem) → list_all has_cells (flat_map (λ item. locals_of Outer (item_parts item)) items) ≡ true
items_have_cells [] = refl
items_have_cells (x ∷ items) =
    all_of_both has_cells (locals_of Outer (item_parts x)) (flat_map (λ item. locals_of Outer (item_parts item)) items) (locals_have_cells Outer (item_parts x))
    (items_have_cells items)

-- the variables of a checked program lie one after the other
pub variables_in_order : (raw : RawProgram) → list_all has_length raw.items ≡ true → lies_in_order 0 (variables raw) ≡ true
variables_in_order raw h =
    let g = globals raw.items in let m = main_locals 1 raw.main in let f = flat_map (λ item. locals_of Outer (item_parts item)) raw.items in
    laid_in_order 0 (g ++ m ++ f)
    (all_of_both has_cells (g ++ m) f (all_of_both has_cells g m (globals_have_cells raw.items h) (main_have_cells 1 raw.main)) (items_have_cells raw.items))

-- a program that is given is the resolved one, and no name of its text offends
check_answer-given : (raw : RawProgram) (p : Program) → check_answer raw ≡ Ok p → (first_offence (names_of raw) ≡ None) × (resolved raw ≡ p)
unfolding check_answer
check_answer-given raw p given = by (first_offence (names_of raw)) (too_many_functions raw) (too_many_cells raw) given
  where
    by : (a b c : Option CheckFail) → unless a (unless b (unless c (Ok (resolved raw)))) ≡ Ok p → (a ≡ None) × (resolved raw ≡ p)
    by None None None h = (refl, cc)
    by _ _ _ h = absurd (cc)

pub checked : (raw : RawProgram) (p : Program) → list_all has_length raw.items ≡ true → breaks_fit raw ≡ true → check_answer raw ≡ Ok p → IsChecked p
checked raw p lengths breaks given =
    let e = check_answer-given raw p given in
    let fits = halves (list_all breaks_fit_at_top raw.main) (list_all is_unbroken_item raw.items) breaks in
    subst IsChecked e.1 (record {
      globals = globals_stand_first raw;
      cells = variables_in_order raw lengths;
      sites = sites_in_order raw;
      roles = sites_as_in_text raw;
      regions = regions_stand_in_order (main_begin raw) 1 raw.main fits.0;
      functions = functions_are_plain (text_begin raw) raw.items fits.1;
      scoped = resolved_in_scope raw e.0;
    })
