-- The state in a run's text needs the cells of the file-scope variables alone.
use Rattle.std.proofs.Common.{◌≡◌, refl, sym, ap, ◌∙◌, ℕ, ◌+◌, ◌-◌, ◌≤◌, ◌==◌, Bool, true, false, ◌&&◌, if◌then◌else◌, List, [], ◌∷◌, ◌++◌, length, take, drop}
use Rattle.std.proofs.Common.{replicate, ℤ, arith, eqb-true, subst}
use Rattle.std.specs.Prelude.{codes}
use Rattle.std.proofs.lemmas.Bool.{and_parts}
use Rattle.std.proofs.lemmas.List.{drop-take, take-take, length-replicate, length-append}
use Rattle.std.specs.List.{list_all, flat_map}
use Rattle.dp_calls.proofs.Layouts.{no_files}
use Rattle.dp_tree.specs.declared.VarInfo.{VarInfo}
use Rattle.dp_tree.specs.Globals.{is_global_scope, globals_in}
use Rattle.dp_tree.specs.Layout.{has_cells, lies_in_order, is_local_variable, globals_first}
use Rattle.dp_tree.specs.Trace.{start_cells}
use Rattle.dp_report.specs.StateText.{variable_values, variable_line, state_bytes}
use Rattle.dp_report.specs.Lines.{line, spaced_signed}

values_within : (n : ℕ) (cells : List ℤ) (v : VarInfo) → v.first.0 + v.length ≤ n → variable_values (take n cells) v ≡ variable_values cells v
values_within n cells v within =
    let apart : n ≡ v.first.0 + (n - v.first.0) = omega (arith, within) in
    let short : v.length ≤ n - v.first.0 = omega (arith, within) in
    ap (λ (m : ℕ). take v.length (drop v.first.0 (take m cells))) apart
    ∙ ap (take v.length) (drop-take v.first.0 (n - v.first.0) cells)
    ∙ take-take v.length (n - v.first.0) (drop v.first.0 cells) short

-- The lines of the file-scope variables, whose cells are among the first n.
state_within : (k n : ℕ) (cells : List ℤ) (vars : List VarInfo) → lies_in_order k vars ≡ true → globals_first vars ≡ true →
    k + length (start_cells (globals_in vars)) ≤ n →
    flat_map (variable_line (take n cells)) (globals_in vars) ≡ flat_map (variable_line cells) (globals_in vars)
state_within k n cells [] order first within = refl
state_within k n cells (x ∷ rest) order first within = by (is_global_scope x.scope) refl (state_within (k + x.length) n cells rest parts.1)
  where
    parts : (((x.first.0 == k) && has_cells x) ≡ true) × (lies_in_order (k + x.length) rest ≡ true)
    parts = and_parts ((x.first.0 == k) && has_cells x) (lies_in_order (k + x.length) rest) order

    here : x.first.0 ≡ k
    here = eqb-true x.first.0 k (and_parts (x.first.0 == k) (has_cells x) parts.0).0

    by : (b : Bool) → is_global_scope x.scope ≡ b →
        (globals_first rest ≡ true → k + x.length + length (start_cells (globals_in rest)) ≤ n →
        flat_map (variable_line (take n cells)) (globals_in rest) ≡ flat_map (variable_line cells) (globals_in rest)) →
        flat_map (variable_line (take n cells)) (if b then x ∷ globals_in rest else globals_in rest) ≡ flat_map (variable_line cells)
        (if b then x ∷ globals_in rest else globals_in rest)
    by true is go =
        let more : globals_first rest ≡ true = sym (ap (λ (b : Bool). if b then globals_first rest else list_all is_local_variable rest) is) ∙ first in
        let total : length (start_cells (x ∷ globals_in rest)) ≡ x.length + length (start_cells (globals_in rest)) =
        length-append (replicate x.length x.start) (start_cells (globals_in rest)) ∙ ap (λ (m : ℕ). m + length (start_cells (globals_in rest)))
        (length-replicate x.length x.start) in
        let all : k + length (start_cells (x ∷ globals_in rest)) ≤ n = subst
        (λ (b : Bool). k + length (start_cells (if b then x ∷ globals_in rest else globals_in rest)) ≤ n) is within in
        let inside : x.first.0 + x.length ≤ n = omega (arith, here, all, total) in
        ap (λ (zs : List ℤ). line (x.name ++ spaced_signed zs) ++ flat_map (variable_line (take n cells)) (globals_in rest)) (values_within n cells x inside)
        ∙ ap (λ (bytes : List ℕ). variable_line cells x ++ bytes) (go more (omega (arith, all, total)))
    by false is go =
        let none : globals_in rest ≡ [] = no_files rest
        (sym (ap (λ (b : Bool). if b then globals_first rest else list_all is_local_variable rest) is) ∙ first) in
        ap (flat_map (variable_line (take n cells))) none ∙ sym (ap (flat_map (variable_line cells)) none)

-- The state's text, from the first cells alone.
pub state_from_globals : (vars : List VarInfo) (cells : List ℤ) → lies_in_order 0 vars ≡ true → globals_first vars ≡ true →
    state_bytes vars (take (length (start_cells (globals_in vars))) cells) ≡ state_bytes vars cells
state_from_globals vars cells order first =
    let n = length (start_cells (globals_in vars)) in
    let within : 0 + n ≤ n = omega arith in
    ap (λ (bytes : List ℕ). line (codes "state") ++ bytes) (state_within 0 n cells vars order first within)

-- .. and with the same file-scope variables
pub same_state : (xs ys : List VarInfo) (cells : List ℤ) → globals_in xs ≡ globals_in ys → state_bytes xs cells ≡ state_bytes ys cells
same_state xs ys cells e = ap (λ (vars : List VarInfo). line (codes "state") ++ flat_map (variable_line cells) vars) e
