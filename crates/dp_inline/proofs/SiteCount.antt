-- The sites of the expanded program are as many as its text counts.
use Rattle.std.proofs.Common.{◌≡◌, refl, ap, ◌∙◌, ℕ, zero, suc, ◌+◌, ◌==◌, true, ◌&&◌, List, [], ◌∷◌, ◌++◌, length, length-append, slice_get, nat_lt, arith}
use Rattle.std.specs.List.{list_all}
use Rattle.std.proofs.lemmas.Bool.{eqb-true}
use Rattle.dp_base.specs.declared.VarId.{VarId}
use Rattle.dp_tree.specs.declared.Expr.{Expr}
use Rattle.dp_tree.specs.declared.Stmt.{Stmt, Row_of-Stmt, end_of-Stmt, more_of-Stmt}
use Rattle.dp_tree.specs.declared.Stmt.TheVariants as stmt
use Rattle.dp_tree.specs.declared.Function.{Function}
use Rattle.dp_tree.specs.declared.SiteInfo.{SiteInfo}
use Rattle.dp_tree.specs.declared.SiteKind.TheVariants.{Assign}
use Rattle.dp_tree.specs.declared.Program.{Program}
use Rattle.dp_tree.specs.Functions.{body_in, params_in}
use Rattle.dp_tree.specs.Numbering.{site_numbers, site_numbers_in, site_numbers_all}
use Rattle.dp_tree.specs.Scoping.{knows, in_scope, rows_in_scope, all_in_scope, seen_behind, params_in_scope, seen_behind_params, global_numbers}
use Rattle.dp_tree.specs.Scoping.{function_in_scope, functions_in_scope}
use Rattle.dp_tree.specs.Checked.{IsChecked}
use Rattle.dp_tree.proofs.Heads.{and_true}
use Rattle.dp_calls.specs.Renaming.{Renamed, named_in}
use Rattle.dp_calls.specs.Tables.{Tables, first_tables, with_local, with_site, with_source_site}
use Rattle.dp_calls.specs.Expand.{Calls, expand, bindings, declared_in, is_known, expand_one, expand_rows, expand_list, calls_within}
use Rattle.dp_calls.proofs.SiteLaws.{is_site, Listed, listed_parts, grows, declared_sites, listed_body, all_listed}
use Rattle.dp_calls.proofs.CheckedTexts.{scoped_both}
use Rattle.dp_inline.specs.Size.{size_one, size_rows, size_list, size_within}

module _ (p : Program) where
  count_bindings : (r line : ℕ) (caller : List Renamed) (params : List VarId) (args : List Expr) (names : List Renamed) (t : Tables) →
      length args ≡ length params
      → length (bindings p r line caller params args names t).tables.sites ≡ length t.sites + length args
  count_bindings r line caller [] [] names t e = omega arith
  count_bindings r line caller (x ∷ params) (a ∷ args) names t e =
      let info : SiteInfo = record { line = line; kind = Assign; region = r } in
      let u = with_local p r x.0 (with_site info t) in
      let more : List Renamed = record { source = x.0; target = length t.vars } ∷ names in
      let fewer : length args ≡ length params = omega (arith, e) in
      let rest = count_bindings r line caller params args more u fewer in
      let grown : length u.sites ≡ suc (length t.sites) = let g = length-append t.sites (info ∷ []) in omega (arith, g) in
      omega (arith, rest, grown)
  count_bindings r line caller _ _ names t e = absurd (omega (arith, e))

  module _ (calls : Calls) (c : ℕ → ℕ)
      (called : (f r : ℕ) (names : List Renamed) (t : Tables) → length (calls f r names t).tables.sites ≡ length t.sites + c f) where
    mutual
      count_one : (r : ℕ) (s : Stmt) (names : List Renamed) (t : Tables) → Listed p (site_numbers s) → (q n : ℕ) (visible : List ℕ) →
          in_scope p q n visible s ≡ true
          → length (expand_one p calls r s names t).tables.sites ≡ length t.sites + size_one 0 c s
      count_one r (stmt.Assign site x e) names t h q n visible k =
          let same = declared_sites p (is_known p (named_in names x.0) x.0) r x.0 names (with_source_site p r site t) in
          let grown : length (declared_in p r x.0 names (with_source_site p r site t)).tables.sites ≡ suc (length t.sites) = ap length same
          ∙ grows p r site t (and_true (is_site p site.0) true h).0 in
          omega (arith, grown)
      count_one r (stmt.Store site x index e) names t h q n visible k = let g = grows p r site t (and_true (is_site p site.0) true h).0 in omega (arith, g)
      count_one r (stmt.Print site e) names t h q n visible k = let g = grows p r site t (and_true (is_site p site.0) true h).0 in omega (arith, g)
      count_one r (stmt.Break site cond) names t h q n visible k = let g = grows p r site t (and_true (is_site p site.0) true h).0 in omega (arith, g)
      count_one r (stmt.If' site cond _ a _ b) names t h q n visible k =
          let u = with_source_site p r site t in
          let own = and_true (is_site p site.0) (list_all (is_site p) (site_numbers_in a ++ site_numbers_in b)) h in
          let parts = listed_parts p (site_numbers_in a) (site_numbers_in b) own.1 in
          let both = and_true (rows_in_scope p q n visible a) (rows_in_scope p q n visible b)
          (and_true (knows visible cond) (rows_in_scope p q n visible a && rows_in_scope p q n visible b) k).1 in
          let left = expand_rows p calls r a names u in let g = grows p r site t own.0 in
          let l = count_rows r a names u parts.0 q n visible both.0 in
          let m = count_rows r b left.names left.tables parts.1 q n visible both.1 in
          omega (arith, g, l, m)
      count_one r (stmt.While' site cond _ a) names t h q n visible k =
          let own = and_true (is_site p site.0) (list_all (is_site p) (site_numbers_in a)) h in
          let g = grows p r site t own.0 in
          let l = count_rows r a names (with_source_site p r site t) own.1 q n visible (and_true (knows visible cond) (rows_in_scope p q n visible a) k).1 in
          omega (arith, g, l)
      count_one r (stmt.Region' q site cond _ a) names t h _ n visible k =
          let own = and_true (is_site p site.0) (list_all (is_site p) (site_numbers_in a)) h in
          let g = grows p q site t own.0 in
          let l = count_rows q a names (with_source_site p q site t) own.1 q n visible (and_true (knows visible cond) (rows_in_scope p q n visible a) k).1 in
          omega (arith, g, l)
      count_one r (stmt.Call f line args) names t h q n visible k =
          let params = params_in (slice_get p.functions f) in
          let rest = (and_true (nat_lt f n) (list_all (knows visible) args && (length args == length params)) k).1 in
          let same = eqb-true (length args) (length params) (and_true (list_all (knows visible) args) (length args == length params) rest).1 in
          let bound = bindings p r line names params args [] t in
          let b = count_bindings r line names params args [] t same in let e = called f r bound.names bound.tables in
          omega (arith, b, e)

      pub count_rows : {m : _} (r : ℕ) (rows : Row_of-Stmt m) (names : List Renamed) (t : Tables) → Listed p (site_numbers_in rows) →
          (q n : ℕ) (visible : List ℕ) → rows_in_scope p q n visible rows ≡ true
          → length (expand_rows p calls r rows names t).tables.sites ≡ length t.sites + size_rows 0 c rows
      count_rows r end_of-Stmt names t h q n visible k = omega arith
      count_rows r (more_of-Stmt s rest) names t h q n visible k =
          let parts = listed_parts p (site_numbers s) (site_numbers_in rest) h in
          let both = and_true (in_scope p q n visible s) (rows_in_scope p q n (seen_behind visible s) rest) k in
          let one = expand_one p calls r s names t in let e = count_one r s names t parts.0 q n visible both.0 in
          let f = count_rows r rest one.names one.tables parts.1 q n (seen_behind visible s) both.1 in
          omega (arith, e, f)

    count_list : (r : ℕ) (all : List Stmt) (names : List Renamed) (t : Tables) → Listed p (site_numbers_all all) → (q n : ℕ) (visible : List ℕ) →
        all_in_scope p q n visible all ≡ true
        → length (expand_list p calls r all names t).tables.sites ≡ length t.sites + size_list 0 c all
    count_list r [] names t h q n visible k = omega arith
    count_list r (s ∷ rest) names t h q n visible k =
        let parts = listed_parts p (site_numbers s) (site_numbers_all rest) h in
        let both = and_true (in_scope p q n visible s) (all_in_scope p q n (seen_behind visible s) rest) k in
        let one = expand_one p calls r s names t in let e = count_one r s names t parts.0 q n visible both.0 in
        let f = count_list r rest one.names one.tables parts.1 q n (seen_behind visible s) both.1 in
        omega (arith, e, f)

  -- the body of function f, with the functions and names that it may use
  abbrev Scoped : List Stmt → Type 0
  Scoped body = (n : ℕ) × ((visible : List ℕ) × (all_in_scope p 0 n visible body ≡ true))

  scoped_body : (n : ℕ) (fs : List Function) (f : ℕ) → functions_in_scope p n fs ≡ true → Scoped (body_in (slice_get fs f))
  scoped_body n [] f h = (0, ([], refl))
  scoped_body n (fn ∷ fs) zero h =
      let own = (and_true (function_in_scope p n fn) (functions_in_scope p (suc n) fs) h).0 in
      let visible = seen_behind_params (global_numbers p) fn.params in
      (n, (visible, (and_true (params_in_scope p (global_numbers p) fn.params) (all_in_scope p 0 n visible fn.body) own).1))
  scoped_body n (fn ∷ fs) (suc f) h = scoped_body (suc n) fs f (and_true (function_in_scope p n fn) (functions_in_scope p (suc n) fs) h).1

  module _ (checked : IsChecked p) where
    pub count_within : (depth f r : ℕ) (names : List Renamed) (t : Tables) → length (calls_within p depth f r names t).tables.sites ≡ length t.sites
        + size_within p 0 depth f
    count_within zero f r names t = omega arith
    count_within (suc depth) f r names t =
        let body = scoped_body 0 p.functions f (scoped_both p checked).0 in
        count_list (calls_within p depth) (size_within p 0 depth) (count_within depth) r (body_in (slice_get p.functions f)) names t
        (listed_body p p.functions f (all_listed p checked).1) 0 body.0 body.1.0 body.1.1

    pub sites_counted : length (expand p).sites ≡ size_list 0 (size_within p 0 (length p.functions)) p.main
    sites_counted =
        let e = count_list (calls_within p (length p.functions)) (size_within p 0 (length p.functions)) (count_within (length p.functions)) 0 p.main []
        (first_tables p) (all_listed p checked).0
        0 (length p.functions) (global_numbers p) (scoped_both p checked).1 in
        omega (arith, e)
