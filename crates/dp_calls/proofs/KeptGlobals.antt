-- Expansion keeps the file-scope variables: what it adds to the table are locals.
use Rattle.std.proofs.Common.{◌≡◌, refl, ◌∙◌, ℕ, zero, suc, Bool, true, false, List, [], ◌∷◌, length, slice_get}
use Rattle.dp_base.specs.declared.VarId.{VarId}
use Rattle.dp_tree.specs.declared.Expr.{Expr}
use Rattle.dp_tree.specs.declared.Stmt.{Stmt, Row_of-Stmt, end_of-Stmt, more_of-Stmt}
use Rattle.dp_tree.specs.declared.Stmt.TheVariants as stmt
use Rattle.dp_tree.specs.declared.SiteKind.TheVariants as kind
use Rattle.dp_tree.specs.declared.Program.{Program}
use Rattle.dp_tree.specs.Functions.{body_in, params_in}
use Rattle.dp_tree.specs.Globals.{globals_in}
use Rattle.dp_calls.specs.Renaming.{Renamed, named_in}
use Rattle.dp_calls.specs.Tables.{Tables, first_tables, with_site, with_source_site}
use Rattle.dp_calls.specs.Expand.{Calls, Piece, is_known, declared_by, bindings, expand, expand_one, expand_rows, expand_list, calls_within}
use Rattle.dp_calls.proofs.Tabled.{grows_local}
use Rattle.dp_calls.proofs.Layouts.{files_again}

module _ (p : Program) where
  abbrev Kept : Tables → Piece → Type 0
  Kept t a = globals_in a.tables.vars ≡ globals_in t.vars

  kept_declared : (known : Bool) (r x : ℕ) (names : List Renamed) (t : Tables) → Kept t (declared_by known p r x names t)
  kept_declared true r x names t = refl
  kept_declared false r x names t = (grows_local p r x t).files

  kept_bound : (r line : ℕ) (caller : List Renamed) (params : List VarId) (args : List Expr) (names : List Renamed) (t : Tables) →
      Kept t (bindings p r line caller params args names t)
  kept_bound r line caller (x ∷ params) (e ∷ args) names t =
      kept_bound r line caller params args _ _ ∙ (grows_local p r x.0 (with_site (record { line = line; kind = kind.Assign; region = r }) t)).files
  kept_bound r line caller _ _ names t = refl

  module _ (calls : Calls) (kept_called : (f r : ℕ) (names : List Renamed) (t : Tables) → Kept t (calls f r names t)) where
    mutual
      kept_one : (r : ℕ) (s : Stmt) (names : List Renamed) (t : Tables) → Kept t (expand_one p calls r s names t)
      kept_one r (stmt.Assign site x e) names t = kept_declared (is_known p (named_in names x.0) x.0) r x.0 names (with_source_site p r site t)
      kept_one r (stmt.If' site cond _ a _ b) names t =
          let left = expand_rows p calls r a names (with_source_site p r site t) in
          kept_rows r b left.names left.tables ∙ kept_rows r a names (with_source_site p r site t)
      kept_one r (stmt.While' site cond _ a) names t = kept_rows r a names (with_source_site p r site t)
      kept_one r (stmt.Region' q site cond _ a) names t = kept_rows q a names (with_source_site p q site t)
      kept_one r (stmt.Call f line args) names t =
          let bound = bindings p r line names (params_in (slice_get p.functions f)) args [] t in
          kept_called f r bound.names bound.tables ∙ kept_bound r line names (params_in (slice_get p.functions f)) args [] t
      kept_one r _ names t = refl

      kept_rows : {n : _} (r : ℕ) (rows : Row_of-Stmt n) (names : List Renamed) (t : Tables) → Kept t (expand_rows p calls r rows names t)
      kept_rows r end_of-Stmt names t = refl
      kept_rows r (more_of-Stmt s rest) names t =
          let one = expand_one p calls r s names t in kept_rows r rest one.names one.tables ∙ kept_one r s names t

    kept_list : (r : ℕ) (statements : List Stmt) (names : List Renamed) (t : Tables) → Kept t (expand_list p calls r statements names t)
    kept_list r [] names t = refl
    kept_list r (s ∷ rest) names t = let one = expand_one p calls r s names t in kept_list r rest one.names one.tables ∙ kept_one r s names t

  kept_within : (depth f r : ℕ) (names : List Renamed) (t : Tables) → Kept t (calls_within p depth f r names t)
  kept_within zero f r names t = refl
  kept_within (suc depth) f r names t = kept_list (calls_within p depth) (kept_within depth) r (body_in (slice_get p.functions f)) names t

  -- The file-scope variables of the expanded program are those of the program.
  pub expansion_keeps_globals : globals_in (expand p).vars ≡ globals_in p.vars
  expansion_keeps_globals = kept_list (calls_within p (length p.functions)) (kept_within (length p.functions)) 0 p.main [] (first_tables p) ∙ files_again p.vars
