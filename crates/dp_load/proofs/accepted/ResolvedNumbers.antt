-- A tree whose numbers fit 64 bits stands for a program whose numbers do.
use Rattle.std.proofs.Common.{◌≡◌, refl, ◌∙◌, ℕ, ◌+◌, Bool, true, ◌&&◌, if◌then◌else◌, List, [], ◌∷◌, ◌++◌, map, Option, Some, None}
use Rattle.std.proofs.lemmas.Bool.{and_from, and_parts}
use Rattle.std.proofs.lemmas.List.Folds.{list_all-append}
use Rattle.std.specs.List.{list_all, flat_map}
use Rattle.dp_base.specs.Arithmetic.{fits}
use Rattle.dp_base.specs.declared.VarId.{VarId}
use Rattle.dp_tree.specs.declared.Expr.{Expr}
use Rattle.dp_tree.specs.declared.Stmt.{Stmt}
use Rattle.dp_tree.specs.declared.Stmt.TheVariants as code
use Rattle.dp_tree.specs.declared.VarInfo.{VarInfo}
use Rattle.dp_tree.specs.declared.VarScope.{VarScope}
use Rattle.dp_tree.specs.declared.VarScope.TheVariants.{Outer, Body}
use Rattle.dp_tree.specs.declared.raw.RawExpr.{RawExpr, end_of-RawExpr, more_of-RawExpr}
use Rattle.dp_tree.specs.declared.raw.RawExpr.TheVariants as raw
use Rattle.dp_tree.specs.declared.raw.RawStmt.{RawStmt, Row_of-RawStmt, end_of-RawStmt, more_of-RawStmt, out-RawStmt}
use Rattle.dp_tree.specs.declared.raw.RawStmt.TheOpen.{RawStmt-F}
use Rattle.dp_tree.specs.declared.raw.RawStmt.TheOpen as open_form
use Rattle.dp_tree.specs.declared.raw.RawStmt.TheVariants as tree
use Rattle.dp_tree.specs.declared.raw.RawItem.{RawItem}
use Rattle.dp_tree.specs.declared.raw.RawItem.TheVariants as item
use Rattle.dp_tree.specs.declared.raw.RawProgram.{RawProgram}
use Rattle.dp_tree.specs.Statements.{everywhere}
use Rattle.dp_tree.proofs.EvalLemmas.{opened}
use Rattle.dp_calls.specs.AtHome.{expr_fits, site_fits, start_fits, numbers_fit, body_fits, all_numbers_fit}
use Rattle.dp_calls.proofs.Everywhere.{all_pass, pass_join, pass-If, pass-While, pass-Region}
use Rattle.dp_check.specs.declared.names.Meaning.{Meaning}
use Rattle.dp_check.specs.declared.names.Meaning.TheVariants.{Scalar}
use Rattle.dp_check.specs.declared.place.Place.{Place}
use Rattle.dp_check.specs.declared.items.Head.{Head}
use Rattle.dp_check.specs.Names.{Named, named}
use Rattle.dp_check.specs.Place.{TextPart, Site, Local, parts_in, parts_all, sited, place_passed, place_after, after_in, place_after_all, after_params}
use Rattle.dp_check.specs.Resolved.{next_site, next_variable, variable_of, function_of, array_of, scalar_expr, element_expr, resolved_expr, resolved}
use Rattle.dp_check.specs.Resolved.{resolved_in, resolved_all, with_loop_step, stepped_region, is_marked_loop, region_at, resolved_main}
use Rattle.dp_check.specs.Tables.{laid, locals_of, globals, item_parts, outside, within, top_locals, after_top, main_locals, variables}
use Rattle.dp_check.specs.Items.{after_item, items_functions}
use Rattle.dp_check.specs.CheckAnswer as answer
use Rattle.dp_check.specs.CheckAnswer.{text_begin, main_begin}
use Rattle.dp_load.proofs.accepted.RawNumbers.{expr_small, small, small_in, small_at, small_out, item_small}

-- ---- expressions

scalar_fits : (o : Option Meaning) → expr_fits (scalar_expr o) ≡ true
scalar_fits (Some (Scalar x)) = refl
scalar_fits _ = refl

element_fits : (o : Option VarId) (e : Expr) → expr_fits e ≡ true → expr_fits (element_expr o e) ≡ true
unfolding opened
element_fits (Some x) e h = h
element_fits None e h = h

module _ (names : List Named) where
  expression_fits : (e : RawExpr) → expr_small e ≡ true → expr_fits (resolved_expr names e) ≡ true
  unfolding opened
  expression_fits (raw.Number z) h = h
  expression_fits (raw.Scalar name) h = scalar_fits (named names name.text)
  expression_fits (raw.Element' name _ (more_of-RawExpr e end_of-RawExpr)) h =
      element_fits (array_of (named names name.text)) (resolved_expr names e) (expression_fits e h)
  expression_fits (raw.Unary' op _ (more_of-RawExpr a end_of-RawExpr)) h = expression_fits a h
  expression_fits (raw.Binary' op _ (more_of-RawExpr a end_of-RawExpr) _ (more_of-RawExpr b end_of-RawExpr)) h =
      let both = and_parts (expr_small a) (expr_small b) h in
      and_from (expr_fits (resolved_expr names a)) (expr_fits (resolved_expr names b)) (expression_fits a both.0) (expression_fits b both.1)
  expression_fits (raw.And' _ (more_of-RawExpr a end_of-RawExpr) _ (more_of-RawExpr b end_of-RawExpr)) h =
      let both = and_parts (expr_small a) (expr_small b) h in
      and_from (expr_fits (resolved_expr names a)) (expr_fits (resolved_expr names b)) (expression_fits a both.0) (expression_fits b both.1)
  expression_fits (raw.Or' _ (more_of-RawExpr a end_of-RawExpr) _ (more_of-RawExpr b end_of-RawExpr)) h =
      let both = and_parts (expr_small a) (expr_small b) h in
      and_from (expr_fits (resolved_expr names a)) (expr_fits (resolved_expr names b)) (expression_fits a both.0) (expression_fits b both.1)

  arguments_fit : (args : List RawExpr) → list_all expr_small args ≡ true → list_all expr_fits (map (resolved_expr names) args) ≡ true
  arguments_fit [] h = refl
  arguments_fit (e ∷ args) h =
      let both = and_parts (expr_small e) (list_all expr_small args) h in
      and_from (expr_fits (resolved_expr names e)) (list_all expr_fits (map (resolved_expr names) args)) (expression_fits e both.0) (arguments_fit args both.1)

-- ---- statements

abbrev code_fits : List Stmt → Bool
code_fits statements = all_pass site_fits statements

one : (s : Stmt) → everywhere site_fits s ≡ true → code_fits (s ∷ []) ≡ true
one s h = and_from (everywhere site_fits s) true h refl

mutual
  statement_fits : (p : Place) (s : RawStmt) → small s ≡ true → code_fits (resolved p s) ≡ true
  statement_fits p (tree.Declare line name value) h =
      one (code.Assign (next_site p) (next_variable p) (resolved_expr p.names value)) (expression_fits p.names value h)
  statement_fits p (tree.Assign name value) h =
      one (code.Assign (next_site p) (variable_of (named p.names name.text)) (resolved_expr p.names value)) (expression_fits p.names value h)
  statement_fits p (tree.Store name index value) h =
      let both = and_parts (expr_small index) (expr_small value) h in
      one (code.Store (next_site p) (variable_of (named p.names name.text)) (resolved_expr p.names index) (resolved_expr p.names value))
      (and_from (expr_fits (resolved_expr p.names index)) (expr_fits (resolved_expr p.names value)) (expression_fits p.names index both.0)
      (expression_fits p.names value both.1))
  statement_fits p (tree.Call name args) h =
      one (code.Call (function_of (named p.names name.text)) name.line (map (resolved_expr p.names) args)) (arguments_fit p.names args h)
  statement_fits p (tree.Print line value) h = one (code.Print (next_site p) (resolved_expr p.names value)) (expression_fits p.names value h)
  statement_fits p (tree.If' line cond _ a _ b) h =
      let both = and_parts (expr_small cond) (small_in a && small_in b) h in let inner = and_parts (small_in a) (small_in b) both.1 in
      let xs = resolved_in (sited p) a in let ys = resolved_in (place_passed (sited p) (parts_in a)) b in
      one (code.If (next_site p) (resolved_expr p.names cond) xs ys)
      (pass-If site_fits (next_site p) (resolved_expr p.names cond) xs ys (expression_fits p.names cond both.0) (statements_fit (sited p) a inner.0)
      (statements_fit (place_passed (sited p) (parts_in a)) b inner.1))
  statement_fits p (tree.While' line marked cond _ body) h =
      let both = and_parts (expr_small cond) (small_in body) h in let xs = resolved_in (sited p) body in
      one (code.While (next_site p) (resolved_expr p.names cond) xs) (pass-While site_fits (next_site p) (resolved_expr p.names cond) xs
      (expression_fits p.names cond both.0) (statements_fit (sited p) body both.1))
  statement_fits p (tree.For' line marked _ first cond _ step _ body) h =
      let both = and_parts (expr_small cond) (small_in first && (small_in body && small_in step)) h in
      let inner = and_parts (small_in first) (small_in body && small_in step) both.1 in let last = and_parts (small_in body) (small_in step) inner.1 in
      let q = after_in p first in let later = place_passed (sited q) (parts_in body) in let xs = resolved_in (sited q) body in
      let ys = resolved_in later step in
      pass_join site_fits (resolved_in p first) (code.While (next_site q) (resolved_expr q.names cond) (xs ++ ys) ∷ []) (statements_fit p first inner.0)
      (one (code.While (next_site q) (resolved_expr q.names cond) (xs ++ ys))
      (pass-While site_fits (next_site q) (resolved_expr q.names cond) (xs ++ ys) (expression_fits q.names cond both.0)
      (pass_join site_fits xs ys (statements_fit (sited q) body last.0) (statements_fit later step last.1))))
  statement_fits p (tree.Break line cond) h = one (code.Break (next_site p) (resolved_expr p.names cond)) (expression_fits p.names cond h)

  statements_fit : {n : _} (p : Place) (row : Row_of-RawStmt n) → small_in row ≡ true → code_fits (resolved_in p row) ≡ true
  statements_fit p end_of-RawStmt h = refl
  statements_fit p (more_of-RawStmt s rest) h =
      let both = and_parts (small s) (small_in rest) h in
      pass_join site_fits (resolved p s) (resolved_in (place_after p s) rest) (statement_fits p s both.0) (statements_fit (place_after p s) rest both.1)

all_fit : (p : Place) (all : List RawStmt) → list_all small all ≡ true → code_fits (resolved_all p all) ≡ true
all_fit p [] h = refl
all_fit p (s ∷ rest) h =
    let both = and_parts (small s) (list_all small rest) h in
    pass_join site_fits (resolved p s) (resolved_all (place_after p s) rest) (statement_fits p s both.0) (all_fit (place_after p s) rest both.1)

-- ---- `main` and the functions

region_fits : (p : Place) (r : ℕ) (h : RawStmt-F RawStmt) (plain : List Stmt) → small_at h ≡ true → code_fits plain ≡ true →
    code_fits (region_at p r h plain) ≡ true
region_fits p r (open_form.While line true cond body) plain w k =
    let both = and_parts (expr_small cond) (list_all small body) w in let xs = resolved_all (sited p) body in
    one (code.Region r (next_site p) (resolved_expr p.names cond) xs) (pass-Region site_fits r (next_site p) (resolved_expr p.names cond) xs
    (expression_fits p.names cond both.0) (all_fit (sited p) body both.1))
region_fits p r (open_form.For line true first cond step body) plain w k =
    let both = and_parts (expr_small cond) (list_all small first && (list_all small body && list_all small step)) w in
    let inner = and_parts (list_all small first) (list_all small body && list_all small step) both.1 in
    let last = and_parts (list_all small body) (list_all small step) inner.1 in
    let q = place_after_all p first in let later = place_passed (sited q) (parts_all body) in let inside = with_loop_step (sited q) step body in
    pass_join site_fits (resolved_all p first) (stepped_region q r cond step body ∷ []) (all_fit p first inner.0)
    (one (stepped_region q r cond step body)
    (pass-Region site_fits r (next_site q) (resolved_expr q.names cond) inside (expression_fits q.names cond both.0)
    (pass_join site_fits (resolved_all (sited q) body) (resolved_all later step) (all_fit (sited q) body last.0) (all_fit later step last.1))))
region_fits p r _ plain w k = k

main_fits : (p : Place) (r : ℕ) (all : List RawStmt) → list_all small all ≡ true → code_fits (resolved_main p r all) ≡ true
main_fits p r [] h = refl
main_fits p r (s ∷ rest) h =
    let both = and_parts (small s) (list_all small rest) h in let next = if is_marked_loop s then r + 1 else r in
    pass_join site_fits (region_at p r (out-RawStmt s) (resolved p s)) (resolved_main (place_after p s) next rest)
    (region_fits p r (out-RawStmt s) (resolved p s) (small_out s both.0) (statement_fits p s both.0)) (main_fits (place_after p s) next rest both.1)

functions_fit : (h : Head) (items : List RawItem) → list_all item_small items ≡ true → list_all body_fits (items_functions h items) ≡ true
functions_fit h [] w = refl
functions_fit h (item.Scalar name start ∷ rest) w =
    functions_fit (after_item h (item.Scalar name start)) rest (and_parts (fits start) (list_all item_small rest) w).1
functions_fit h (item.Array name size ∷ rest) w = functions_fit (after_item h (item.Array name size)) rest w
functions_fit h (item.Function name params body ∷ rest) w =
    let both = and_parts (list_all small body) (list_all item_small rest) w in
    and_from (code_fits (resolved_all (after_params h.place params) body))
    (list_all body_fits (items_functions (after_item h (item.Function name params body)) rest))
    (all_fit (after_params h.place params) body both.0) (functions_fit (after_item h (item.Function name params body)) rest both.1)

-- ---- start values

abbrev starts_fit : List VarInfo → Bool
starts_fit vars = list_all start_fits vars

starts_join : (a b : List VarInfo) → starts_fit a ≡ true → starts_fit b ≡ true → starts_fit (a ++ b) ≡ true
starts_join a b h k = list_all-append start_fits a b ∙ and_from (starts_fit a) (starts_fit b) h k

laid_fit : (k : ℕ) (vars : List VarInfo) → starts_fit vars ≡ true → starts_fit (laid k vars) ≡ true
laid_fit k [] h = refl
laid_fit k (x ∷ vars) h =
    let both = and_parts (start_fits x) (starts_fit vars) h in
    and_from (start_fits x) (starts_fit (laid (k + x.length) vars)) both.0 (laid_fit (k + x.length) vars both.1)

-- a local starts with 0
locals_fit : (scope : VarScope) (ps : List TextPart) → starts_fit (locals_of scope ps) ≡ true
locals_fit scope [] = refl
locals_fit scope (Site line k ∷ ps) = locals_fit scope ps
locals_fit scope (Local name ∷ ps) = locals_fit scope ps

globals_fit : (items : List RawItem) → list_all item_small items ≡ true → starts_fit (globals items) ≡ true
globals_fit [] h = refl
globals_fit (item.Scalar name start ∷ items) h =
    let both = and_parts (fits start) (list_all item_small items) h in and_from (fits start) (starts_fit (globals items)) both.0 (globals_fit items both.1)
globals_fit (item.Array name size ∷ items) h = globals_fit items h
globals_fit (item.Function name params body ∷ items) h = globals_fit items (and_parts (list_all small body) (list_all item_small items) h).1

main_locals_fit : (r : ℕ) (all : List RawStmt) → starts_fit (main_locals r all) ≡ true
main_locals_fit r [] = refl
main_locals_fit r (s ∷ rest) =
    starts_join (top_locals r s) (main_locals (after_top r s) rest)
    (starts_join (locals_of Outer (outside s)) (locals_of (Body r) (within s)) (locals_fit Outer (outside s)) (locals_fit (Body r) (within s)))
    (main_locals_fit (after_top r s) rest)

item_locals_fit : (items : List RawItem) → starts_fit (flat_map (λ item. locals_of Outer (item_parts item)) items) ≡ true
item_locals_fit [] = refl
item_locals_fit (x ∷ items) = starts_join (locals_of Outer (item_parts x)) (flat_map (λ item. locals_of Outer (item_parts item)) items)
    (locals_fit Outer (item_parts x)) (item_locals_fit items)

variables_fit : (program : RawProgram) → list_all item_small program.items ≡ true → starts_fit (variables program) ≡ true
variables_fit program h =
    let g = globals program.items in let m = main_locals 1 program.main in let f = flat_map (λ item. locals_of Outer (item_parts item)) program.items in
    laid_fit 0 (g ++ m ++ f) (starts_join (g ++ m) f (starts_join g m (globals_fit program.items h) (main_locals_fit 1 program.main))
    (item_locals_fit program.items))

pub resolved_fits : (program : RawProgram) → list_all small program.main ≡ true → list_all item_small program.items ≡ true →
    all_numbers_fit (answer.resolved program) ≡ true
resolved_fits program h k =
    and_from (numbers_fit (answer.resolved program)) (list_all body_fits (answer.resolved program).functions)
    (and_from (starts_fit (answer.resolved program).vars) (code_fits (answer.resolved program).main) (variables_fit program k)
    (main_fits (main_begin program) 1 program.main h)) (functions_fit (text_begin program) program.items k)
