-- The locals of a program that is read, and of its expansion, start at 0.
use Rattle.std.proofs.Common.{◌≡◌, refl, subst, ℕ, ◌+◌, ◌<◌, Bool, true, false, if◌then◌else◌, List, [], ◌∷◌, ◌++◌, pos, Option, None, Result, Ok, Err, arith}
use Rattle.std.proofs.Common.{lt-ltb}
use Rattle.std.specs.List.{list_all, flat_map}
use Rattle.dp_base.specs.Arithmetic.{is_zero}
use Rattle.dp_tree.specs.declared.Program.{Program}
use Rattle.dp_tree.specs.declared.VarInfo.{VarInfo}
use Rattle.dp_tree.specs.declared.VarScope.{VarScope}
use Rattle.dp_tree.specs.declared.VarScope.TheVariants.{Outer, Body}
use Rattle.dp_tree.specs.declared.raw.RawItem.{RawItem}
use Rattle.dp_tree.specs.declared.raw.RawItem.TheVariants as item
use Rattle.dp_tree.specs.declared.raw.RawProgram.{RawProgram}
use Rattle.dp_tree.specs.declared.raw.RawStmt.{RawStmt}
use Rattle.dp_calls.specs.Expand.{expand}
use Rattle.dp_calls.specs.Starts.{is_clear_start, locals_start_clear, starts_clear}
use Rattle.dp_calls.proofs.StartLaws.{expanded_starts}
use Rattle.dp_check.specs.Answer.{unless}
use Rattle.dp_check.specs.declared.fail.CheckFail.{CheckFail}
use Rattle.dp_check.specs.CheckAnswer.{check_answer, names_of, resolved, too_many_cells, too_many_functions}
use Rattle.dp_check.specs.Offence.{first_offence}
use Rattle.dp_check.specs.Place.{TextPart, Site, Local}
use Rattle.dp_check.specs.Resolved.{is_marked_loop}
use Rattle.dp_check.specs.Tables.{after_top, globals, item_parts, laid, locals_of, main_locals, outside, top_locals, variables, within}
use Rattle.dp_check.proofs.BoolLemmas.{all_of_both, both_true, halves}
use Rattle.dp_inline.specs.declared.fail.InlineFail.{InlineFail}
use Rattle.dp_inline.specs.InlineAnswer.{inline_answer}
use Rattle.dp_refusal.specs.declared.refusal.Refusal.{Refusal}
use Rattle.dp_load.specs.Program.{Checked, NoToken, NoTree, Reads, ReadsAs, TooDeep, TooLong, checked_read, expanded, sized}
use Rattle.dp_load.proofs.accepted.Accepted.{read_checked}

-- ---- the variables of a tree

laid_clear : (k : ℕ) (xs : List VarInfo) → list_all starts_clear xs ≡ true → list_all starts_clear (laid k xs) ≡ true
laid_clear k [] h = refl
laid_clear k (x ∷ xs) h = let both = halves (starts_clear x) (list_all starts_clear xs) h in both_true both.0 (laid_clear (k + x.length) xs both.1)

locals_clear : (scope : VarScope) (ps : List TextPart) → is_clear_start (pos 0) scope ≡ true → list_all starts_clear (locals_of scope ps) ≡ true
locals_clear scope [] h = refl
locals_clear scope (Site line k ∷ ps) h = locals_clear scope ps h
locals_clear scope (Local name ∷ ps) h = both_true h (locals_clear scope ps h)

globals_clear : (items : List RawItem) → list_all starts_clear (globals items) ≡ true
globals_clear [] = refl
globals_clear (item.Scalar name start ∷ items) = globals_clear items
globals_clear (item.Array name size ∷ items) = globals_clear items
globals_clear (item.Function name params body ∷ items) = globals_clear items

outer_clear : is_clear_start (pos 0) Outer ≡ true
unfolding is_zero
outer_clear = refl

body_clear : (r : ℕ) → 0 < r → is_clear_start (pos 0) (Body r) ≡ true
unfolding is_zero
body_clear r low = both_true (lt-ltb 0 r low) refl

later_region : (r : ℕ) (s : RawStmt) → 0 < r → 0 < after_top r s
later_region r s low = by (is_marked_loop s)
  where
    by : (b : Bool) → 0 < (if b then r + 1 else r)
    by true = omega (arith, low)
    by false = low

main_clear : (r : ℕ) (all : List RawStmt) → 0 < r → list_all starts_clear (main_locals r all) ≡ true
main_clear r [] low = refl
main_clear r (s ∷ rest) low =
    all_of_both starts_clear (top_locals r s) (main_locals (after_top r s) rest)
    (all_of_both starts_clear (locals_of Outer (outside s)) (locals_of (Body r) (within s)) (locals_clear Outer (outside s) outer_clear)
    (locals_clear (Body r) (within s) (body_clear r low)))
    (main_clear (after_top r s) rest (later_region r s low))

items_clear : (items : List RawItem) → list_all starts_clear (flat_map (λ item. locals_of Outer (item_parts item)) items) ≡ true
items_clear [] = refl
items_clear (x ∷ items) =
    all_of_both starts_clear (locals_of Outer (item_parts x)) (flat_map (λ item. locals_of Outer (item_parts item)) items)
    (locals_clear Outer (item_parts x) outer_clear) (items_clear items)

variables_clear : (raw : RawProgram) → list_all starts_clear (variables raw) ≡ true
variables_clear raw =
    let g = globals raw.items in let m = main_locals 1 raw.main in let f = flat_map (λ item. locals_of Outer (item_parts item)) raw.items in
    laid_clear 0 (g ++ m ++ f)
    (all_of_both starts_clear (g ++ m) f (all_of_both starts_clear g m (globals_clear raw.items) (main_clear 1 raw.main (omega arith))) (items_clear raw.items))

-- ---- a text's program

-- a program that is given is the resolved one
given : (raw : RawProgram) (p : Program) → check_answer raw ≡ Ok p → locals_start_clear p ≡ true
unfolding check_answer
given raw p e = subst (λ (q : Program). locals_start_clear q ≡ true) (by (first_offence (names_of raw)) (too_many_functions raw) (too_many_cells raw) e)
    (variables_clear raw)
  where
    by : (a b c : Option CheckFail) → unless a (unless b (unless c (Ok (resolved raw)))) ≡ Ok p → resolved raw ≡ p
    by None None None h = cc h
    by _ _ _ h = absurd (cc h)

kept : (q p : Program) (v : Result Program InlineFail) → sized q v ≡ Ok p → q ≡ p
kept q p (Ok x) e = cc e
kept q p (Err fail) e = absurd (cc e)

answered : (raw : RawProgram) (p : Program) (v : Result Program CheckFail) → check_answer raw ≡ v → checked_read v ≡ Ok p → locals_start_clear p ≡ true
answered raw p (Ok q) is e = subst (λ (u : Program). locals_start_clear u ≡ true) (kept q p (inline_answer q) e) (given raw q is)
answered raw p (Err fail) is e = absurd (cc e)

read_by : {text : List ℕ} {o : Result Program Refusal} (p : Program) → Reads text o → o ≡ Ok p → locals_start_clear p ≡ true
read_by p (TooLong h) e = absurd (cc e)
read_by p (NoToken place h refused) e = absurd (cc e)
read_by p (TooDeep quantity count h deep) e = absurd (cc e)
read_by p (NoTree token h none) e = absurd (cc e)
read_by p (Checked raw h parses) e = answered raw p (check_answer raw) refl e

-- the program that is run for a text
pub run_starts_clear : (text : List ℕ) (q : Program) → ReadsAs text (Ok q) → locals_start_clear q ≡ true
run_starts_clear text q read = by read.source read.reads read.is
  where
    by : (source : Result Program Refusal) → Reads text source → Ok q ≡ expanded source → locals_start_clear q ≡ true
    by (Ok p) reads is = let same : expand p ≡ q = cc is in
        subst (λ (u : Program). locals_start_clear u ≡ true) same (expanded_starts p (read_checked text p reads) (read_by p reads refl))
    by (Err refusal) reads is = absurd (cc is)
