-- Where the variables of a checked program lie.
use Rattle.std.proofs.Common.{◌≡◌, refl, sym, ap, ◌∙◌, subst, ℕ, zero, suc, ◌+◌, ◌-◌, ◌<◌, ◌≤◌, ◌==◌, Bool, true, false, not, ◌&&◌, ◌||◌, if◌then◌else◌, List}
use Rattle.std.proofs.Common.{[], ◌∷◌, ◌++◌, pos, length, length-append, replicate, Some, slice_get, nat_lt, arith, ltb-true, eqb-true}
use Rattle.std.specs.List.{list_all}
use Rattle.std.proofs.lemmas.List.{length-replicate}
use Rattle.std.proofs.lemmas.Option.{same_Some}
use Rattle.dp_tree.specs.declared.VarInfo.{VarInfo}
use Rattle.dp_tree.specs.declared.Program.{Program}
use Rattle.dp_tree.specs.Globals.{is_global_scope, globals_in}
use Rattle.dp_tree.specs.Layout.{has_cells, lies_in_order, is_local_variable, globals_first}
use Rattle.dp_tree.specs.Trace.{start_cells}
use Rattle.dp_calls.specs.Frame.{global_count, fresh_frame}
use Rattle.dp_tree.proofs.Heads.{and_true, and_make}
use Rattle.dp_calls.proofs.Relation.{PlaceOf, file, own, file_count}
use Rattle.std.proofs.lemmas.Bool.{not-true}

or_one : (a b : Bool) → (a || b) ≡ true → a ≡ false → b ≡ true
or_one false b h e = h
or_one true b h e = absurd (cc e)

files_some : (x : VarInfo) (xs : List VarInfo) → is_global_scope x.scope ≡ true → globals_in (x ∷ xs) ≡ x ∷ globals_in xs
files_some x xs e = ap (λ (t : Bool). if t then x ∷ globals_in xs else globals_in xs) e

files_none : (x : VarInfo) (xs : List VarInfo) → is_global_scope x.scope ≡ false → globals_in (x ∷ xs) ≡ globals_in xs
files_none x xs e = ap (λ (t : Bool). if t then x ∷ globals_in xs else globals_in xs) e

-- where all are locals there is no file-scope variable
pub no_files : (xs : List VarInfo) → list_all is_local_variable xs ≡ true → globals_in xs ≡ []
no_files [] h = refl
no_files (x ∷ xs) h =
    let both = and_true (is_local_variable x) (list_all is_local_variable xs) h in
    files_none x xs (not-true (is_global_scope x.scope) both.0) ∙ no_files xs both.1

first_rest : (x : VarInfo) (xs : List VarInfo) → globals_first (x ∷ xs) ≡ true → is_global_scope x.scope ≡ true → globals_first xs ≡ true
first_rest x xs h e = sym (ap (λ (t : Bool). if t then globals_first xs else list_all is_local_variable xs) e) ∙ h

locals_rest : (x : VarInfo) (xs : List VarInfo) → globals_first (x ∷ xs) ≡ true → is_global_scope x.scope ≡ false → list_all is_local_variable xs ≡ true
locals_rest x xs h e = sym (ap (λ (t : Bool). if t then globals_first xs else list_all is_local_variable xs) e) ∙ h

-- the first variable lies at k, the others behind it
record Lying (k : ℕ) (x : VarInfo) (xs : List VarInfo) : Type 0 where
  first : x.first.0 ≡ k
  some : 0 < x.length
  one : is_global_scope x.scope ≡ false → x.length ≡ 1
  rest : lies_in_order (k + x.length) xs ≡ true

lying : (k : ℕ) (x : VarInfo) (xs : List VarInfo) → lies_in_order k (x ∷ xs) ≡ true → Lying k x xs
lying k x xs h =
    let both = and_true ((x.first.0 == k) && has_cells x) (lies_in_order (k + x.length) xs) h in
    let here = and_true (x.first.0 == k) (has_cells x) both.0 in
    let cells = and_true (nat_lt 0 x.length) (is_global_scope x.scope || (x.length == 1)) here.1 in
    record {
      first = eqb-true x.first.0 k here.0;
      some = ltb-true 0 x.length cells.0;
      one = λ e. eqb-true x.length 1 (or_one (is_global_scope x.scope) (x.length == 1) cells.1 e);
      rest = both.1;
    }

-- locals lie one by one
local_lies : (k : ℕ) (xs : List VarInfo) → list_all is_local_variable xs ≡ true → lies_in_order k xs ≡ true → (n : ℕ) (info : VarInfo) →
    slice_get xs n ≡ Some info → PlaceOf 0 k n info
local_lies k [] locals lies n info at = absurd (cc at)
local_lies k (x ∷ xs) locals lies n info at = by n at (λ m there. local_lies (k + x.length) xs both.1 l.rest m info there)
  where
    both : (is_local_variable x ≡ true) × (list_all is_local_variable xs ≡ true)
    both = and_true (is_local_variable x) (list_all is_local_variable xs) locals

    no : is_global_scope x.scope ≡ false
    no = not-true (is_global_scope x.scope) both.0

    l : Lying k x xs
    l = lying k x xs lies

    one : x.length ≡ 1
    one = l.one no

    next : (n : ℕ) → PlaceOf 0 (k + x.length) n info → PlaceOf 0 k (suc n) info
    next n (file less _ _ _) = absurd (omega (arith, less))
    next n (own behind scope first single) = own (omega arith) scope (omega (arith, first, one)) single

    by : (n : ℕ) → slice_get (x ∷ xs) n ≡ Some info → ((m : ℕ) → slice_get xs m ≡ Some info → PlaceOf 0 (k + x.length) m info) → PlaceOf 0 k n info
    by zero at behind = let same : x ≡ info = same_Some x info at in
        subst (λ (v : VarInfo). PlaceOf 0 k 0 v) same (own (omega arith) no (omega (arith, l.first)) one)
    by (suc n) at behind = next n (behind n at)

-- the place of variable n among some from cell k on, where these are the file-scope ones
abbrev PlaceAmong : List VarInfo → ℕ → ℕ → VarInfo → Type 0
PlaceAmong files k n info = PlaceOf (length files) (k + length (start_cells files)) n info

-- the same wherever the entry stands
abbrev PlacesAmong : List VarInfo → ℕ → List VarInfo → VarInfo → Type 0
PlacesAmong files k xs info = (n : ℕ) → slice_get xs n ≡ Some info → PlaceAmong files k n info

-- each variable's place
lies_from : (k : ℕ) (xs : List VarInfo) → globals_first xs ≡ true → lies_in_order k xs ≡ true → (n : ℕ) (info : VarInfo) → slice_get xs n ≡ Some info →
    PlaceAmong (globals_in xs) k n info
lies_from k [] first lies n info at = absurd (cc at)
lies_from k (x ∷ xs) first lies n info at =
    by (is_global_scope x.scope) refl (λ e m there. lies_from (k + x.length) xs (first_rest x xs first e) l.rest m info there)
  where
    l : Lying k x xs
    l = lying k x xs lies

    long : length (replicate x.length x.start ++ start_cells (globals_in xs)) ≡ x.length + length (start_cells (globals_in xs))
    long = length-append (replicate x.length x.start) (start_cells (globals_in xs)) ∙ ap (λ (m : ℕ). m + length (start_cells (globals_in xs)))
        (length-replicate x.length x.start)

    next : (n : ℕ) → PlaceAmong (globals_in xs) (k + x.length) n info → PlaceAmong (x ∷ globals_in xs) k (suc n) info
    next n (file less global within some) = file (omega (arith, less)) global (omega (arith, within, long)) some
    next n (own behind scope cell one) = own (omega (arith, behind)) scope (omega (arith, cell, long)) one

    at_file : (is_global_scope x.scope ≡ true → PlacesAmong (globals_in xs) (k + x.length) xs info) → is_global_scope x.scope ≡ true →
        PlacesAmong (x ∷ globals_in xs) k (x ∷ xs) info
    at_file behind e zero at =
        let same : x ≡ info = same_Some x info at in
        subst (λ (v : VarInfo). PlaceAmong (x ∷ globals_in xs) k 0 v) same
        (file (omega arith) e (omega (arith, l.first, long)) l.some)
    at_file behind e (suc n) at = next n (behind e n at)

    by : (t : Bool) → is_global_scope x.scope ≡ t → (is_global_scope x.scope ≡ true → PlacesAmong (globals_in xs) (k + x.length) xs info) →
        PlaceAmong (globals_in (x ∷ xs)) k n info
    by true e behind = subst (λ (files : List VarInfo). PlaceAmong files k n info) (sym (files_some x xs e)) (at_file behind e n at)
    by false e behind =
        let others = locals_rest x xs first e in let none : globals_in (x ∷ xs) ≡ [] = files_none x xs e ∙ no_files xs others in
        let all : list_all is_local_variable (x ∷ xs) ≡ true = and_make (is_local_variable x) (list_all is_local_variable xs) (ap not e) others in
        let same : k ≡ k + 0 = omega arith in
        subst (λ (files : List VarInfo). PlaceAmong files k n info) (sym none)
        (subst (λ (c : ℕ). PlaceOf 0 c n info) same (local_lies k (x ∷ xs) all lies n info at))

-- the file-scope variables come first
files_before : (xs : List VarInfo) → globals_first xs ≡ true → (n : ℕ) → n < length (globals_in xs) → slice_get (globals_in xs) n ≡ slice_get xs n
files_before [] first n less = refl
files_before (x ∷ xs) first n less = by (is_global_scope x.scope) refl (λ e m below. files_before xs (first_rest x xs first e) m below)
  where
    at_file : ((m : ℕ) → m < length (globals_in xs) → slice_get (globals_in xs) m ≡ slice_get xs m) → (n : ℕ) → n < suc (length (globals_in xs)) →
        slice_get (x ∷ globals_in xs) n ≡ slice_get (x ∷ xs) n
    at_file behind zero less = refl
    at_file behind (suc n) less = let below : n < length (globals_in xs) = omega (arith, less) in behind n below

    by : (t : Bool) → is_global_scope x.scope ≡ t → (is_global_scope x.scope ≡ true → (m : ℕ) → m < length (globals_in xs) →
        slice_get (globals_in xs) m ≡ slice_get xs m) → slice_get (globals_in (x ∷ xs)) n ≡ slice_get (x ∷ xs) n
    by true e behind =
        let long : length (globals_in (x ∷ xs)) ≡ suc (length (globals_in xs)) = ap (λ (gs : List VarInfo). length gs) (files_some x xs e) in
        ap (λ (gs : List VarInfo). slice_get gs n) (files_some x xs e) ∙ at_file (behind e) n (omega (arith, less, long))
    by false e behind =
        let none : length (globals_in (x ∷ xs)) ≡ 0 = ap (λ (gs : List VarInfo). length gs) (files_none x xs e ∙ no_files xs (locals_rest x xs first e)) in
        absurd (omega (arith, less, none))

-- each local has one cell
record Counted (xs : List VarInfo) : Type 0 where
  cells : length (start_cells xs) + length (globals_in xs) ≡ length (start_cells (globals_in xs)) + length xs
  fewer : length (globals_in xs) ≤ length xs

counted : (k : ℕ) (xs : List VarInfo) → lies_in_order k xs ≡ true → Counted xs
counted k [] lies = record { cells = refl; fewer = omega arith }
counted k (x ∷ xs) lies = by (is_global_scope x.scope) refl (counted (k + x.length) xs l.rest)
  where
    l : Lying k x xs
    l = lying k x xs lies

    long : (ys : List VarInfo) → length (replicate x.length x.start ++ start_cells ys) ≡ x.length + length (start_cells ys)
    long ys = length-append (replicate x.length x.start) (start_cells ys) ∙ ap (λ (m : ℕ). m + length (start_cells ys)) (length-replicate x.length x.start)

    by : (t : Bool) → is_global_scope x.scope ≡ t → Counted xs → Counted (x ∷ xs)
    by true e rest =
        let files : length (globals_in (x ∷ xs)) ≡ suc (length (globals_in xs)) = ap (λ (gs : List VarInfo). length gs) (files_some x xs e) in
        let starts : length (start_cells (globals_in (x ∷ xs))) ≡ x.length + length (start_cells (globals_in xs)) = ap
        (λ (gs : List VarInfo). length (start_cells gs)) (files_some x xs e) ∙ long (globals_in xs) in
        let all = long xs in
        record { cells = omega (arith, files, starts, all, rest.cells); fewer = omega (arith, files, rest.fewer) }
    by false e rest =
        let files : length (globals_in (x ∷ xs)) ≡ length (globals_in xs) = ap (λ (gs : List VarInfo). length gs) (files_none x xs e) in
        let starts : length (start_cells (globals_in (x ∷ xs))) ≡ length (start_cells (globals_in xs)) = ap (λ (gs : List VarInfo). length (start_cells gs))
        (files_none x xs e) in
        let all = long xs in let one = l.one e in
        record { cells = omega (arith, files, starts, all, one, rest.cells); fewer = omega (arith, files, rest.fewer) }

files_if : (t : Bool) (x : VarInfo) (xs : List VarInfo) → is_global_scope x.scope ≡ t → globals_in xs ≡ xs →
    globals_in (if t then x ∷ xs else xs) ≡ (if t then x ∷ xs else xs)
files_if true x xs e same = files_some x xs e ∙ ap (λ (ys : List VarInfo). x ∷ ys) same
files_if false x xs e same = same

-- the file-scope variables of these are these
pub files_again : (xs : List VarInfo) → globals_in (globals_in xs) ≡ globals_in xs
files_again [] = refl
files_again (x ∷ xs) = files_if (is_global_scope x.scope) x (globals_in xs) refl (files_again xs)

module _ (p : Program) (first : globals_first p.vars ≡ true) (lies : lies_in_order 0 p.vars ≡ true) where
  pub places_of : (x : ℕ) (info : VarInfo) → slice_get p.vars x ≡ Some info → PlaceOf (file_count p) (global_count p) x info
  places_of x info at =
      let same : 0 + global_count p ≡ global_count p = omega arith in
      subst (λ (c : ℕ). PlaceOf (file_count p) c x info) same (lies_from 0 p.vars first lies x info at)

  pub file_before : (x : ℕ) → x < file_count p → slice_get (globals_in p.vars) x ≡ slice_get p.vars x
  file_before x less = files_before p.vars first x less

  pub files_within : file_count p ≤ length p.vars
  files_within = (counted 0 p.vars lies).fewer

  pub locals_long : length (fresh_frame p) + file_count p ≡ length p.vars
  locals_long =
      let c = counted 0 p.vars lies in
      let long : length (fresh_frame p) ≡ length (start_cells p.vars) - global_count p = length-replicate
      (length (start_cells p.vars) - global_count p) (pos 0) in
      omega (arith, long, c.cells, c.fewer)
