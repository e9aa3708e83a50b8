-- An expanded program has no other numbers than its source: where those fit 64 bits, its own do.
use Rattle.std.proofs.Common.{◌≡◌, refl, sym, ap, ◌∙◌, ℕ, zero, suc, Bool, true, false, ◌&&◌, if◌then◌else◌, List, [], ◌∷◌, length, Option, Some, None}
use Rattle.std.proofs.Common.{slice_get}
use Rattle.std.specs.List.{list_all}
use Rattle.std.proofs.lemmas.List.Folds.{list_all-append}
use Rattle.dp_base.specs.declared.VarId.{VarId}
use Rattle.dp_tree.specs.declared.Expr.{Expr, end_of-Expr, more_of-Expr}
use Rattle.dp_tree.specs.declared.Expr.TheVariants as tree
use Rattle.dp_tree.specs.declared.Stmt.{Stmt, Row_of-Stmt, end_of-Stmt, more_of-Stmt}
use Rattle.dp_tree.specs.declared.Stmt.TheVariants as stmt
use Rattle.dp_tree.specs.declared.VarInfo.{VarInfo}
use Rattle.dp_tree.specs.declared.Function.{Function}
use Rattle.dp_tree.specs.declared.Program.{Program}
use Rattle.dp_tree.specs.Functions.{body_in, params_in}
use Rattle.dp_tree.specs.Globals.{is_global_scope, globals_in}
use Rattle.dp_tree.specs.Statements.{everywhere, everywhere_in}
use Rattle.dp_tree.proofs.EvalLemmas.{opened}
use Rattle.dp_tree.proofs.Heads.{and_true, and_make}
use Rattle.dp_calls.specs.AtHome.{expr_fits, site_fits, start_fits, numbers_fit, body_fits, KeepsNumbersSmall}
use Rattle.dp_calls.specs.Renaming.{Renamed, named_in, target_of, renamed}
use Rattle.dp_calls.specs.Tables.{Tables, moved_to, with_local, with_source_site, new_site, first_tables}
use Rattle.dp_calls.specs.Expand.{Piece, is_known, declared_by, declared_in, Calls, bindings, expand_one, expand_rows, expand_list, calls_within, expand}
use Rattle.dp_calls.proofs.Everywhere.{all_pass, pass_join, pass-If, pass-While, pass-Region}

renamed_fits : (names : List Renamed) (v : Expr) → expr_fits v ≡ true → expr_fits (renamed names v) ≡ true
unfolding opened
renamed_fits names (tree.Number z) h = h
renamed_fits names (tree.Input' _ (more_of-Expr a end_of-Expr)) h = renamed_fits names a h
renamed_fits names (tree.Element' x _ (more_of-Expr a end_of-Expr)) h = renamed_fits names a h
renamed_fits names (tree.Unary' op _ (more_of-Expr a end_of-Expr)) h = renamed_fits names a h
renamed_fits names (tree.Binary' op _ (more_of-Expr a end_of-Expr) _ (more_of-Expr b end_of-Expr)) h =
    let both = and_true (expr_fits a) (expr_fits b) h in and_make (expr_fits (renamed names a)) (expr_fits (renamed names b)) (renamed_fits names a both.0)
    (renamed_fits names b both.1)
renamed_fits names (tree.And' _ (more_of-Expr a end_of-Expr) _ (more_of-Expr b end_of-Expr)) h =
    let both = and_true (expr_fits a) (expr_fits b) h in and_make (expr_fits (renamed names a)) (expr_fits (renamed names b)) (renamed_fits names a both.0)
    (renamed_fits names b both.1)
renamed_fits names (tree.Or' _ (more_of-Expr a end_of-Expr) _ (more_of-Expr b end_of-Expr)) h =
    let both = and_true (expr_fits a) (expr_fits b) h in and_make (expr_fits (renamed names a)) (expr_fits (renamed names b)) (renamed_fits names a both.0)
    (renamed_fits names b both.1)
renamed_fits names _ h = refl

-- the text fits
abbrev pub code_fits : List Stmt → Bool
code_fits code = all_pass site_fits code

-- each variable starts with a number that fits
abbrev starts_fit : List VarInfo → Bool
starts_fit vars = list_all start_fits vars

-- the piece's text fits, and so do the start values of its tables
abbrev Fits : Piece → Type 0
Fits a = (starts_fit a.tables.vars ≡ true) × (code_fits a.code ≡ true)

starts_moved : (o : Option VarInfo) (cell r : ℕ) → ((info : VarInfo) → o ≡ Some info → start_fits info ≡ true) → starts_fit (moved_to o cell r) ≡ true
starts_moved None cell r h = refl
starts_moved (Some info) cell r h = and_make (start_fits info) true (h info refl) refl

start_at : (vars : List VarInfo) (x : ℕ) (info : VarInfo) → starts_fit vars ≡ true → slice_get vars x ≡ Some info → start_fits info ≡ true
start_at [] x info h at = absurd (cc at)
start_at (v ∷ vars) zero info h at = let same : v ≡ info = cc at in ap start_fits (sym same) ∙ (and_true (start_fits v) (starts_fit vars) h).0
start_at (v ∷ vars) (suc x) info h at = start_at vars x info (and_true (start_fits v) (starts_fit vars) h).1 at

body_at : (fs : List Function) (f : ℕ) → list_all body_fits fs ≡ true → code_fits (body_in (slice_get fs f)) ≡ true
body_at [] f h = refl
body_at (g ∷ fs) zero h = (and_true (body_fits g) (list_all body_fits fs) h).0
body_at (g ∷ fs) (suc f) h = body_at fs f (and_true (body_fits g) (list_all body_fits fs) h).1

globals_fit : (vars : List VarInfo) → starts_fit vars ≡ true → starts_fit (globals_in vars) ≡ true
globals_fit [] h = refl
globals_fit (v ∷ vars) h = let both = and_true (start_fits v) (starts_fit vars) h in by (is_global_scope v.scope) both.0 (globals_fit vars both.1)
  where
    by : (b : Bool) → start_fits v ≡ true → starts_fit (globals_in vars) ≡ true → starts_fit (if b then v ∷ globals_in vars else globals_in vars) ≡ true
    by true here rest = and_make (start_fits v) (starts_fit (globals_in vars)) here rest
    by false here rest = rest

one_alone : (s : Stmt) → everywhere site_fits s ≡ true → code_fits (s ∷ []) ≡ true
one_alone s h = and_make (everywhere site_fits s) true h refl

module _ (p : Program) (starts : starts_fit p.vars ≡ true) where
  local_fits : (r x : ℕ) (t : Tables) → starts_fit t.vars ≡ true → starts_fit (with_local p r x t).vars ≡ true
  local_fits r x t h =
      list_all-append start_fits t.vars (moved_to (slice_get p.vars x) t.cells r)
      ∙ and_make (starts_fit t.vars) (starts_fit (moved_to (slice_get p.vars x) t.cells r)) h
      (starts_moved (slice_get p.vars x) t.cells r (λ info at. start_at p.vars x info starts at))

  declared_fits : (b : Bool) (r x : ℕ) (names : List Renamed) (t : Tables) → starts_fit t.vars ≡ true →
      starts_fit (declared_by b p r x names t).tables.vars ≡ true
  declared_fits true r x names t h = h
  declared_fits false r x names t h = local_fits r x t h

  bindings_fit : (r line : ℕ) (caller : List Renamed) (params : List VarId) (args : List Expr) (names : List Renamed) (t : Tables) →
      list_all expr_fits args ≡ true → starts_fit t.vars ≡ true → Fits (bindings p r line caller params args names t)
  bindings_fit r line caller (x ∷ params) (e ∷ args) names t small h =
      let both = and_true (expr_fits e) (list_all expr_fits args) small in
      let rest = bindings_fit r line caller params args _ _ both.1 (local_fits r x.0 t h) in
      (rest.0, and_make (expr_fits (renamed caller e)) _ (renamed_fits caller e both.0) rest.1)
  bindings_fit r line caller _ _ names t small h = (h, refl)

  module _ (calls : Calls) (called : (f r : ℕ) (names : List Renamed) (t : Tables) → starts_fit t.vars ≡ true → Fits (calls f r names t)) where
    mutual
      one_fits : (r : ℕ) (s : Stmt) (names : List Renamed) (t : Tables) → everywhere site_fits s ≡ true → starts_fit t.vars ≡ true →
          Fits (expand_one p calls r s names t)
      one_fits r (stmt.Assign site x e) names t small h =
          let d : Piece = declared_in p r x.0 names (with_source_site p r site t) in (
            declared_fits (is_known p (named_in names x.0) x.0) r x.0 names (with_source_site p r site t) h,
            one_alone (stmt.Assign (new_site t) (target_of d.names x) (renamed names e)) (renamed_fits names e small),
          )
      one_fits r (stmt.Store site x i e) names t small h =
          let both = and_true (expr_fits i) (expr_fits e) small in (
            h,
            one_alone (stmt.Store (new_site t) (target_of names x) (renamed names i) (renamed names e))
                (and_make (expr_fits (renamed names i)) (expr_fits (renamed names e)) (renamed_fits names i both.0) (renamed_fits names e both.1)),
          )
      one_fits r (stmt.Print site e) names t small h = (h, one_alone (stmt.Print (new_site t) (renamed names e)) (renamed_fits names e small))
      one_fits r (stmt.If' site e m a k b) names t small h =
          let both = and_true (expr_fits e) (everywhere_in site_fits a && everywhere_in site_fits b) small in
          let inner = and_true (everywhere_in site_fits a) (everywhere_in site_fits b) both.1 in
          let left : Piece = expand_rows p calls r a names (with_source_site p r site t) in
          let first = rows_fit r a names (with_source_site p r site t) inner.0 h in
          let right : Piece = expand_rows p calls r b left.names left.tables in let second = rows_fit r b left.names left.tables inner.1 first.0 in (
            second.0,
            one_alone (stmt.If (new_site t) (renamed names e) left.code right.code) (pass-If site_fits (new_site t) (renamed names e) left.code
                right.code (renamed_fits names e both.0) first.1 second.1),
          )
      one_fits r (stmt.While' site e m a) names t small h =
          let both = and_true (expr_fits e) (everywhere_in site_fits a) small in
          let inside : Piece = expand_rows p calls r a names (with_source_site p r site t) in
          let first = rows_fit r a names (with_source_site p r site t) both.1 h in (
            first.0,
            one_alone (stmt.While (new_site t) (renamed names e) inside.code) (pass-While site_fits (new_site t) (renamed names e) inside.code
                (renamed_fits names e both.0) first.1),
          )
      one_fits r (stmt.Region' q site e m a) names t small h =
          let both = and_true (expr_fits e) (everywhere_in site_fits a) small in
          let inside : Piece = expand_rows p calls q a names (with_source_site p q site t) in
          let first = rows_fit q a names (with_source_site p q site t) both.1 h in (
            first.0,
            one_alone (stmt.Region q (new_site t) (renamed names e) inside.code) (pass-Region site_fits q (new_site t) (renamed names e) inside.code
                (renamed_fits names e both.0) first.1),
          )
      one_fits r (stmt.Break site e) names t small h = (h, one_alone (stmt.Break (new_site t) (renamed names e)) (renamed_fits names e small))
      one_fits r (stmt.Call f line args) names t small h =
          let bound : Piece = bindings p r line names (params_in (slice_get p.functions f)) args [] t in
          let first = bindings_fit r line names (params_in (slice_get p.functions f)) args [] t small h in
          let body : Piece = calls f r bound.names bound.tables in
          let second = called f r bound.names bound.tables first.0 in
          (second.0, pass_join site_fits bound.code body.code first.1 second.1)

      rows_fit : {n : _} (r : ℕ) (rows : Row_of-Stmt n) (names : List Renamed) (t : Tables) → everywhere_in site_fits rows ≡ true → starts_fit t.vars ≡ true →
          Fits (expand_rows p calls r rows names t)
      rows_fit r end_of-Stmt names t small h = (h, refl)
      rows_fit r (more_of-Stmt s rest) names t small h =
          let both = and_true (everywhere site_fits s) (everywhere_in site_fits rest) small in
          let a : Piece = expand_one p calls r s names t in let first = one_fits r s names t both.0 h in
          let b : Piece = expand_rows p calls r rest a.names a.tables in let second = rows_fit r rest a.names a.tables both.1 first.0 in
          (second.0, pass_join site_fits a.code b.code first.1 second.1)

    list_fits : (r : ℕ) (statements : List Stmt) (names : List Renamed) (t : Tables) → code_fits statements ≡ true → starts_fit t.vars ≡ true →
        Fits (expand_list p calls r statements names t)
    list_fits r [] names t small h = (h, refl)
    list_fits r (s ∷ rest) names t small h =
        let both = and_true (everywhere site_fits s) (code_fits rest) small in
        let a : Piece = expand_one p calls r s names t in let first = one_fits r s names t both.0 h in
        let b : Piece = expand_list p calls r rest a.names a.tables in let second = list_fits r rest a.names a.tables both.1 first.0 in
        (second.0, pass_join site_fits a.code b.code first.1 second.1)

  calls_fit : list_all body_fits p.functions ≡ true → (depth f r : ℕ) (names : List Renamed) (t : Tables) → starts_fit t.vars ≡ true →
      Fits (calls_within p depth f r names t)
  calls_fit bodies zero f r names t h = (h, refl)
  calls_fit bodies (suc depth) f r names t h =
      list_fits (calls_within p depth) (calls_fit bodies depth) r (body_in (slice_get p.functions f)) names t (body_at p.functions f bodies) h

pub keeps_numbers_small : (p : Program) → KeepsNumbersSmall p
keeps_numbers_small p small =
    let both = and_true (numbers_fit p) (list_all body_fits p.functions) small in let own = and_true (starts_fit p.vars) (code_fits p.main) both.0 in
    let whole = list_fits p own.0 (calls_within p (length p.functions)) (calls_fit p own.0 both.1 (length p.functions)) 0 p.main [] (first_tables p) own.1
    (globals_fit p.vars own.0) in
    and_make (starts_fit (expand p).vars) (code_fits (expand p).main) whole.0 whole.1
