-- The file-scope variables stand first among a program's variables.
use Rattle.std.proofs.Common.{◌≡◌, refl, ap, ◌∙◌, ℕ, suc, ◌+◌, Bool, true, false, ◌&&◌, if◌then◌else◌, List, [], ◌∷◌, ◌++◌, append_assoc, length}
use Rattle.std.specs.List.{list_all, flat_map}
use Rattle.dp_tree.specs.declared.VarInfo.{VarInfo}
use Rattle.dp_tree.specs.declared.VarScope.{VarScope}
use Rattle.dp_tree.specs.declared.VarScope.TheVariants.{Outer, Body}
use Rattle.dp_tree.specs.declared.raw.RawStmt.{RawStmt}
use Rattle.dp_tree.specs.declared.raw.RawItem.{RawItem}
use Rattle.dp_tree.specs.declared.raw.RawItem.TheVariants as item
use Rattle.dp_tree.specs.declared.raw.RawProgram.{RawProgram}
use Rattle.dp_tree.specs.Globals.{is_global_scope, globals_in}
use Rattle.dp_tree.specs.Layout.{is_local_variable, globals_first}
use Rattle.dp_check.specs.Place.{TextPart, Site, Local}
use Rattle.dp_check.specs.Tables.{laid, locals_of, globals, item_parts, outside, within, top_locals, after_top, main_locals, variables}
use Rattle.dp_check.proofs.BoolLemmas.{both_true, all_of_both}

-- the variables of all texts, behind the file-scope ones
abbrev pub locals_in : RawProgram → List VarInfo
locals_in raw = main_locals 1 raw.main ++ flat_map (λ item. locals_of Outer (item_parts item)) raw.items

pub variables_are : (raw : RawProgram) → variables raw ≡ laid 0 (globals raw.items ++ locals_in raw)
variables_are raw = ap (laid 0) (append_assoc (globals raw.items) (main_locals 1 raw.main) (flat_map (λ item. locals_of Outer (item_parts item)) raw.items))

locals_are_local : (scope : VarScope) (ps : List TextPart) → is_global_scope scope ≡ false → list_all is_local_variable (locals_of scope ps) ≡ true
locals_are_local scope [] h = refl
locals_are_local scope (Site line k ∷ ps) h = locals_are_local scope ps h
locals_are_local scope (Local name ∷ ps) h = both_true (ap Rattle.std.specs.Prelude.not h) (locals_are_local scope ps h)

top_is_local : (r : ℕ) (s : RawStmt) → list_all is_local_variable (top_locals r s) ≡ true
top_is_local r s =
    all_of_both is_local_variable (locals_of Outer (outside s)) (locals_of (Body r) (within s)) (locals_are_local Outer (outside s) refl)
    (locals_are_local (Body r) (within s) refl)

main_is_local : (r : ℕ) (all : List RawStmt) → list_all is_local_variable (main_locals r all) ≡ true
main_is_local r [] = refl
main_is_local r (s ∷ rest) =
    all_of_both is_local_variable (top_locals r s) (main_locals (after_top r s) rest) (top_is_local r s) (main_is_local (after_top r s) rest)

functions_are_local : (items : List RawItem) → list_all is_local_variable (flat_map (λ item. locals_of Outer (item_parts item)) items) ≡ true
functions_are_local [] = refl
functions_are_local (x ∷ items) =
    all_of_both is_local_variable (locals_of Outer (item_parts x)) (flat_map (λ item. locals_of Outer (item_parts item)) items)
    (locals_are_local Outer (item_parts x) refl) (functions_are_local items)

all_local : (raw : RawProgram) → list_all is_local_variable (locals_in raw) ≡ true
all_local raw =
    all_of_both is_local_variable (main_locals 1 raw.main) (flat_map (λ item. locals_of Outer (item_parts item)) raw.items) (main_is_local 1 raw.main)
    (functions_are_local raw.items)

laid_is_local : (k : ℕ) (xs : List VarInfo) → list_all is_local_variable (laid k xs) ≡ list_all is_local_variable xs
laid_is_local k [] = refl
laid_is_local k (x ∷ xs) = ap (λ b. is_local_variable x && b) (laid_is_local (k + x.length) xs)

-- no file-scope variable is among local ones
local_begin : (k : ℕ) (xs : List VarInfo) → list_all is_local_variable xs ≡ true → globals_first (laid k xs) ≡ true
local_begin k [] h = refl
local_begin k (x ∷ xs) h = by (is_global_scope x.scope) h
  where
    by : (c : Bool) → (Rattle.std.specs.Prelude.not c && list_all is_local_variable xs) ≡ true
        → (if c then globals_first (laid (k + x.length) xs) else list_all is_local_variable (laid (k + x.length) xs)) ≡ true
    by true e = absurd (cc)
    by false e = laid_is_local (k + x.length) xs ∙ e

first_of_laid : (k : ℕ) (items : List RawItem) (xs : List VarInfo) → list_all is_local_variable xs ≡ true → globals_first (laid k (globals items ++ xs)) ≡ true
first_of_laid k [] xs h = local_begin k xs h
first_of_laid k (item.Scalar name start ∷ items) xs h = first_of_laid (k + 1) items xs h
first_of_laid k (item.Array name size ∷ items) xs h = first_of_laid (k + Rattle.dp_check.specs.Tables.cells_in_length size) items xs h
first_of_laid k (item.Function name params body ∷ items) xs h = first_of_laid k items xs h

-- the file-scope variables of a resolved program come first
pub globals_stand_first : (raw : RawProgram) → globals_first (variables raw) ≡ true
globals_stand_first raw = ap globals_first (variables_are raw) ∙ first_of_laid 0 raw.items (locals_in raw) (all_local raw)

none_global : (k : ℕ) (xs : List VarInfo) → list_all is_local_variable xs ≡ true → length (globals_in (laid k xs)) ≡ 0
none_global k [] h = refl
none_global k (x ∷ xs) h = by (is_global_scope x.scope) h (none_global (k + x.length) xs)
  where
    by : (c : Bool) → (Rattle.std.specs.Prelude.not c && list_all is_local_variable xs) ≡ true
        → (list_all is_local_variable xs ≡ true → length (globals_in (laid (k + x.length) xs)) ≡ 0)
        → length (if c then record x { first = record { 0 = k } } ∷ globals_in (laid (k + x.length) xs) else globals_in (laid (k + x.length) xs)) ≡ 0
    by true e next = absurd (cc)
    by false e next = next e

count_of_laid : (k : ℕ) (items : List RawItem) (xs : List VarInfo) → list_all is_local_variable xs ≡ true
    → length (globals_in (laid k (globals items ++ xs))) ≡ length (globals items)
count_of_laid k [] xs h = none_global k xs h
count_of_laid k (item.Scalar name start ∷ items) xs h = ap suc (count_of_laid (k + 1) items xs h)
count_of_laid k (item.Array name size ∷ items) xs h = ap suc (count_of_laid (k + Rattle.dp_check.specs.Tables.cells_in_length size) items xs h)
count_of_laid k (item.Function name params body ∷ items) xs h = count_of_laid k items xs h

-- they are as many as the items declare
pub globals_counted : (raw : RawProgram) → length (globals_in (variables raw)) ≡ length (globals raw.items)
globals_counted raw = ap (λ xs. length (globals_in xs)) (variables_are raw) ∙ count_of_laid 0 raw.items (locals_in raw) (all_local raw)
