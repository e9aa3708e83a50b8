-- The variables of an expanded program lie in order: the file-scope ones, and then one cell for each local.
use Rattle.std.proofs.Common.{◌≡◌, refl, ap, ◌∙◌, ℕ, suc, ◌+◌, ◌<◌, ◌==◌, Bool, true, false, not, ◌&&◌, ◌||◌, if◌then◌else◌, List, [], ◌∷◌, ◌++◌, length, drop}
use Rattle.std.proofs.Common.{length-append, replicate, Some, slice_get, nat_lt, arith, eq-eqb, lt-ltb}
use Rattle.std.proofs.lemmas.List.{length-replicate}
use Rattle.std.specs.List.{list_all}
use Rattle.dp_tree.specs.declared.VarInfo.{VarInfo}
use Rattle.dp_tree.specs.declared.Program.{Program}
use Rattle.dp_tree.specs.Checked.{IsChecked}
use Rattle.dp_tree.specs.Globals.{is_global_scope, globals_in}
use Rattle.dp_tree.specs.Layout.{has_cells, lies_in_order, is_local_variable, globals_first}
use Rattle.dp_tree.specs.Trace.{start_cells}
use Rattle.dp_tree.proofs.Heads.{and_true, and_make}
use Rattle.dp_calls.specs.Frame.{global_count}
use Rattle.dp_calls.specs.Expand.{expand}
use Rattle.dp_calls.proofs.Relation.{PlaceOf, file, own, file_count}
use Rattle.dp_calls.proofs.Layouts.{no_files}
use Rattle.dp_calls.proofs.SameMeanings.{expanded_place, expanded_files}
use Rattle.std.proofs.lemmas.Bool.{or_right}
use Rattle.dp_room.proofs.ListLemmas.{get_behind}

-- a local with one cell
one_cell : (x : VarInfo) → x.length ≡ 1 → has_cells x ≡ true
one_cell x e =
    let single : (x.length == 1) ≡ true = eq-eqb x.length 1 e in
    and_make (nat_lt 0 x.length) (is_global_scope x.scope || (x.length == 1)) (let less : 0 < x.length = omega (arith, e) in lt-ltb 0 x.length less)
    (or_right (is_global_scope x.scope) (x.length == 1) single)

-- each entry is a local, with one cell at its place
abbrev LocalsFrom : ℕ → List VarInfo → Type 0
LocalsFrom k xs = (j : ℕ) (info : VarInfo) → slice_get xs j ≡ Some info → (info.first.0 ≡ k + j) × ((info.length ≡ 1) × (is_global_scope info.scope ≡ false))

locals_lie : (k : ℕ) (xs : List VarInfo) → LocalsFrom k xs → (lies_in_order k xs ≡ true) × (list_all is_local_variable xs ≡ true)
locals_lie k [] h = (refl, refl)
locals_lie k (x ∷ xs) h =
    let here = h 0 x refl in let first : x.first.0 ≡ k = omega (arith, here.0) in
    let more = locals_lie (k + x.length) xs
    (λ j info at. let next = h (suc j) info at in let e : info.first.0 ≡ (k + x.length) + j = omega (arith, next.0, here.1.0) in (e, next.1)) in (
      and_make ((x.first.0 == k) && has_cells x) (lies_in_order (k + x.length) xs) (and_make (x.first.0 == k) (has_cells x) (eq-eqb x.first.0 k first)
          (one_cell x here.1.0)) more.0,
      and_make (is_local_variable x) (list_all is_local_variable xs) (ap not here.1.1) more.1,
    )

-- the file-scope variables of a program in order are in order
files_lie : (k : ℕ) (xs : List VarInfo) → lies_in_order k xs ≡ true → globals_first xs ≡ true → (lies_in_order k (globals_in xs) ≡ true)
    × (globals_first (globals_in xs) ≡ true)
files_lie k [] lies first = (refl, refl)
files_lie k (x ∷ rest) lies first =
    let parts = and_true ((x.first.0 == k) && has_cells x) (lies_in_order (k + x.length) rest) lies in
    by (is_global_scope x.scope) refl parts.0 first (files_lie (k + x.length) rest parts.1)
  where
    by : (b : Bool) → is_global_scope x.scope ≡ b → ((x.first.0 == k) && has_cells x) ≡ true →
        (if b then globals_first rest else list_all is_local_variable rest) ≡ true →
        (globals_first rest ≡ true → (lies_in_order (k + x.length) (globals_in rest) ≡ true) × (globals_first (globals_in rest) ≡ true)) →
        (lies_in_order k (if b then x ∷ globals_in rest else globals_in rest) ≡ true)
        × (globals_first (if b then x ∷ globals_in rest else globals_in rest) ≡ true)
    by true is here more go =
        let rests = go more in (
          and_make ((x.first.0 == k) && has_cells x) (lies_in_order (k + x.length) (globals_in rest)) here rests.0,
          ap (λ (b : Bool). if b then globals_first (globals_in rest) else list_all is_local_variable (globals_in rest)) is ∙ rests.1,
        )
    by false is here more go =
        let none : globals_in rest ≡ [] = no_files rest more in
        (ap (lies_in_order k) none, ap globals_first none)

cells_of : List VarInfo → ℕ
cells_of xs = length (start_cells xs)

cells_cons : (x : VarInfo) (xs : List VarInfo) → cells_of (x ∷ xs) ≡ x.length + cells_of xs
unfolding cells_of
cells_cons x xs = length-append (replicate x.length x.start) (start_cells xs) ∙ ap (λ (n : ℕ). n + length (start_cells xs)) (length-replicate x.length x.start)

-- variables in order behind others
lies_behind : (k : ℕ) (a b : List VarInfo) → lies_in_order k a ≡ true → lies_in_order (k + cells_of a) b ≡ true → lies_in_order k (a ++ b) ≡ true
unfolding cells_of
lies_behind k [] b h l = let e : k ≡ k + 0 = omega arith in ap (λ (j : ℕ). lies_in_order j b) e ∙ l
lies_behind k (x ∷ a) b h l =
    let both = and_true ((x.first.0 == k) && has_cells x) (lies_in_order (k + x.length) a) h in
    let more = cells_cons x a in let e : (k + x.length) + cells_of a ≡ k + cells_of (x ∷ a) = omega (arith, more) in
    and_make ((x.first.0 == k) && has_cells x) (lies_in_order (k + x.length) (a ++ b)) both.0
    (lies_behind (k + x.length) a b both.1 (ap (λ (j : ℕ). lies_in_order j b) e ∙ l))

locals_join : (a b : List VarInfo) → list_all is_local_variable a ≡ true → list_all is_local_variable b ≡ true → list_all is_local_variable (a ++ b) ≡ true
locals_join [] b h l = l
locals_join (x ∷ a) b h l =
    let both = and_true (is_local_variable x) (list_all is_local_variable a) h in
    and_make (is_local_variable x) (list_all is_local_variable (a ++ b)) both.0 (locals_join a b both.1 l)

locals_first : (b : List VarInfo) → list_all is_local_variable b ≡ true → globals_first b ≡ true
locals_first [] l = refl
locals_first (x ∷ b) l = let both = and_true (is_local_variable x) (list_all is_local_variable b) l in by (is_global_scope x.scope) both.0 both.1
  where
    by : (g : Bool) → not g ≡ true → list_all is_local_variable b ≡ true → (if g then globals_first b else list_all is_local_variable b) ≡ true
    by true n h = absurd (cc n)
    by false n h = h

-- locals behind others
locals_behind : (a b : List VarInfo) → globals_first a ≡ true → list_all is_local_variable b ≡ true → globals_first (a ++ b) ≡ true
locals_behind [] b h l = locals_first b l
locals_behind (x ∷ a) b h l = by (is_global_scope x.scope) h (λ g. locals_behind a b g l)
  where
    by : (g : Bool) → (if g then globals_first a else list_all is_local_variable a) ≡ true → (globals_first a ≡ true → globals_first (a ++ b) ≡ true) →
        (if g then globals_first (a ++ b) else list_all is_local_variable (a ++ b)) ≡ true
    by true h go = go h
    by false h go = locals_join a b h l

-- a list that begins as another one
begins_as : (ys xs : List VarInfo) → ((j : ℕ) (info : VarInfo) → slice_get ys j ≡ Some info → slice_get xs j ≡ Some info) → xs ≡ ys ++ drop (length ys) xs
begins_as [] xs h = refl
begins_as (y ∷ ys) [] h = let clash = h 0 y refl in absurd (cc clash)
begins_as (y ∷ ys) (x ∷ xs) h =
    let first = h 0 y refl in let same : x ≡ y = cc first in
    ap (λ (z : VarInfo). z ∷ xs) same ∙ ap (λ (zs : List VarInfo). y ∷ zs) (begins_as ys xs (λ j info at. h (suc j) info at))

module _ (p : Program) (checked : IsChecked p) where
  abbrev files : List VarInfo
  files = globals_in p.vars

  abbrev others : List VarInfo
  others = drop (length files) (expand p).vars

  vars_are : (expand p).vars ≡ files ++ others
  vars_are = begins_as files (expand p).vars (expanded_files p checked)

  locals_from : LocalsFrom (global_count p) others
  locals_from j info at = by (expanded_place p checked (length files + j) info (ap (λ (vs : List VarInfo). slice_get vs (length files + j)) vars_are
      ∙ get_behind files others j ∙ at))
    where
      by : PlaceOf (file_count p) (global_count p) (length files + j) info → (info.first.0 ≡ global_count p + j)
          × ((info.length ≡ 1) × (is_global_scope info.scope ≡ false))
      by (file less global within some) = absurd (omega (arith, less))
      by (own behind scope first single) = let e : info.first.0 ≡ global_count p + j = omega (arith, first) in (e, (single, scope))

  pub expanded_in_order : (lies_in_order 0 (expand p).vars ≡ true) × (globals_first (expand p).vars ≡ true)
  unfolding cells_of
  expanded_in_order =
      let before = files_lie 0 p.vars checked.cells checked.globals in let after = locals_lie (global_count p) others locals_from in
      let start : 0 + cells_of files ≡ global_count p = omega arith in (
        ap (lies_in_order 0) vars_are ∙ lies_behind 0 files others before.0 (ap (λ (k : ℕ). lies_in_order k others) start ∙ after.0),
        ap globals_first vars_are ∙ locals_behind files others before.1 after.1,
      )
