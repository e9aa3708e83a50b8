-- Expansion leaves no call, and keeps a text without calls but for its numbers.
use Rattle.std.proofs.Common.{◌≡◌, refl, ap, ap₂, ◌∙◌, ℕ, Bool, true, false, ◌||◌, List, [], ◌∷◌, ◌++◌, map, length, zero, suc, slice_get}
use Rattle.std.specs.List.{list_any}
use Rattle.dp_base.specs.declared.SiteId.{SiteId}
use Rattle.dp_tree.specs.declared.Expr.{Expr, end_of-Expr, more_of-Expr}
use Rattle.dp_tree.specs.declared.Expr.TheVariants as tree
use Rattle.dp_tree.specs.declared.Stmt.{Stmt, Row_of-Stmt, end_of-Stmt, more_of-Stmt}
use Rattle.dp_tree.specs.declared.Stmt.TheVariants as stmt
use Rattle.dp_tree.specs.declared.Program.{Program}
use Rattle.dp_calls.specs.Renaming.{Renamed, renamed}
use Rattle.dp_calls.specs.Tables.{Tables, with_source_site, new_site, first_tables}
use Rattle.dp_calls.specs.Expand.{Calls, expand_one, expand_rows, expand_list, calls_within, bindings}
use Rattle.dp_tree.specs.Inlined.{has_call, has_call_in}
use Rattle.dp_calls.specs.ExpandLaws.{unnumbered, erased, erased_in, KeepsText, LeavesNoCall}
use Rattle.dp_tree.proofs.EvalLemmas.{opened}
use Rattle.dp_tree.proofs.Heads.{opened_statement}
use Rattle.dp_base.specs.declared.VarId.{VarId}
use Rattle.dp_tree.specs.Functions.{body_in, params_in}

pub or_false : (a b : Bool) → (a || b) ≡ false → (a ≡ false) × (b ≡ false)
or_false false b e = (refl, e)
or_false true b e = absurd (cc)

pub or_make : (a b : Bool) → a ≡ false → b ≡ false → (a || b) ≡ false
or_make false b e f = f
or_make true b e f = absurd (cc)

-- renaming changes numbers alone
unnumbered-renamed : (names : List Renamed) (e : Expr) → unnumbered (renamed names e) ≡ unnumbered e
unfolding opened
unnumbered-renamed names (tree.Input' _ (more_of-Expr e end_of-Expr)) = ap tree.Input (unnumbered-renamed names e)
unnumbered-renamed names (tree.Element' x _ (more_of-Expr e end_of-Expr)) = ap (tree.Element (record { 0 = 0 })) (unnumbered-renamed names e)
unnumbered-renamed names (tree.Unary' op _ (more_of-Expr e end_of-Expr)) = ap (tree.Unary op) (unnumbered-renamed names e)
unnumbered-renamed names (tree.Binary' op _ (more_of-Expr a end_of-Expr) _ (more_of-Expr b end_of-Expr)) =
    ap₂ (tree.Binary op) (unnumbered-renamed names a) (unnumbered-renamed names b)
unnumbered-renamed names (tree.And' _ (more_of-Expr a end_of-Expr) _ (more_of-Expr b end_of-Expr)) =
    ap₂ tree.And (unnumbered-renamed names a) (unnumbered-renamed names b)
unnumbered-renamed names (tree.Or' _ (more_of-Expr a end_of-Expr) _ (more_of-Expr b end_of-Expr)) =
    ap₂ tree.Or (unnumbered-renamed names a) (unnumbered-renamed names b)
unnumbered-renamed names _ = refl

abbrev hidden_erased : List Stmt → List Stmt
hidden_erased xs = erased_in (Rattle.dp_tree.specs.declared.Stmt.TheBlock.hidden-the_row-Stmt-0 xs)

erased_hidden : (xs : List Stmt) → hidden_erased xs ≡ map erased xs
unfolding opened_statement
erased_hidden [] = refl
erased_hidden (x ∷ xs) = ap (λ (ys : List Stmt). erased x ∷ ys) (erased_hidden xs)

erased-If : (site : SiteId) (cond : Expr) (a b : List Stmt) → erased (stmt.If site cond a b) ≡ stmt.If (record { 0 = 0 }) (unnumbered cond)
    (map erased a) (map erased b)
unfolding opened_statement
erased-If site cond a b = ap₂ (stmt.If (record { 0 = 0 }) (unnumbered cond)) (erased_hidden a) (erased_hidden b)

erased-While : (site : SiteId) (cond : Expr) (a : List Stmt) → erased (stmt.While site cond a) ≡ stmt.While (record { 0 = 0 }) (unnumbered cond) (map erased a)
unfolding opened_statement
erased-While site cond a = ap (stmt.While (record { 0 = 0 }) (unnumbered cond)) (erased_hidden a)

erased-Region : (r : ℕ) (site : SiteId) (cond : Expr) (a : List Stmt) → erased (stmt.Region r site cond a) ≡ stmt.Region r (record { 0 = 0 })
    (unnumbered cond) (map erased a)
unfolding opened_statement
erased-Region r site cond a = ap (stmt.Region r (record { 0 = 0 }) (unnumbered cond)) (erased_hidden a)

map-join : (f : Stmt → Stmt) (a b : List Stmt) → map f (a ++ b) ≡ map f a ++ map f b
map-join f [] b = refl
map-join f (x ∷ a) b = ap (λ (ys : List Stmt). f x ∷ ys) (map-join f a b)

module _ (p : Program) (calls : Calls) where
  mutual
    same_one : (r : ℕ) (s : Stmt) (names : List Renamed) (t : Tables) → has_call s ≡ false → map erased (expand_one p calls r s names t).code ≡ erased s ∷ []
    same_one r (stmt.Assign site x e) names t h = ap (λ (u : Expr). stmt.Assign (record { 0 = 0 }) (record { 0 = 0 }) u ∷ []) (unnumbered-renamed names e)
    same_one r (stmt.Store site x index e) names t h =
        ap₂ (λ (u v : Expr). stmt.Store (record { 0 = 0 }) (record { 0 = 0 }) u v ∷ []) (unnumbered-renamed names index) (unnumbered-renamed names e)
    same_one r (stmt.Print site e) names t h = ap (λ (u : Expr). stmt.Print (record { 0 = 0 }) u ∷ []) (unnumbered-renamed names e)
    same_one r (stmt.Break site e) names t h = ap (λ (u : Expr). stmt.Break (record { 0 = 0 }) u ∷ []) (unnumbered-renamed names e)
    same_one r (stmt.If' site cond _ a _ b) names t h =
        let both = or_false (has_call_in a) (has_call_in b) h in let left = expand_rows p calls r a names (with_source_site p r site t) in
        let right = expand_rows p calls r b left.names left.tables in
        ap (λ (s : Stmt). s ∷ []) (erased-If (new_site t) (renamed names cond) left.code right.code)
        ∙ ap (λ (u : Expr). stmt.If (record { 0 = 0 }) u (map erased left.code) (map erased right.code) ∷ []) (unnumbered-renamed names cond)
        ∙ ap₂ (λ (xs ys : List Stmt). stmt.If (record { 0 = 0 }) (unnumbered cond) xs ys ∷ []) (same_rows r a names (with_source_site p r site t) both.0)
        (same_rows r b left.names left.tables both.1)
    same_one r (stmt.While' site cond _ a) names t h =
        let body = expand_rows p calls r a names (with_source_site p r site t) in
        ap (λ (s : Stmt). s ∷ []) (erased-While (new_site t) (renamed names cond) body.code)
        ∙ ap₂ (λ (u : Expr) (xs : List Stmt). stmt.While (record { 0 = 0 }) u xs ∷ []) (unnumbered-renamed names cond)
        (same_rows r a names (with_source_site p r site t) h)
    same_one r (stmt.Region' q site cond _ a) names t h =
        let body = expand_rows p calls q a names (with_source_site p q site t) in
        ap (λ (s : Stmt). s ∷ []) (erased-Region q (new_site t) (renamed names cond) body.code)
        ∙ ap₂ (λ (u : Expr) (xs : List Stmt). stmt.Region q (record { 0 = 0 }) u xs ∷ []) (unnumbered-renamed names cond)
        (same_rows q a names (with_source_site p q site t) h)
    same_one r (stmt.Call f line args) names t h = absurd (cc)

    same_rows : {n : _} (r : ℕ) (rows : Row_of-Stmt n) (names : List Renamed) (t : Tables) → has_call_in rows ≡ false →
        map erased (expand_rows p calls r rows names t).code ≡ erased_in rows
    same_rows r end_of-Stmt names t h = refl
    same_rows r (more_of-Stmt s rest) names t h =
        let both = or_false (has_call s) (has_call_in rest) h in let one = expand_one p calls r s names t in
        map-join erased one.code (expand_rows p calls r rest one.names one.tables).code
        ∙ ap₂ (λ (xs ys : List Stmt). xs ++ ys) (same_one r s names t both.0) (same_rows r rest one.names one.tables both.1)

  same_list : (r : ℕ) (statements : List Stmt) (names : List Renamed) (t : Tables) → list_any has_call statements ≡ false →
      map erased (expand_list p calls r statements names t).code ≡ map erased statements
  same_list r [] names t h = refl
  same_list r (s ∷ rest) names t h =
      let both = or_false (has_call s) (list_any has_call rest) h in let one = expand_one p calls r s names t in
      map-join erased one.code (expand_list p calls r rest one.names one.tables).code
      ∙ ap₂ (λ (xs ys : List Stmt). xs ++ ys) (same_one r s names t both.0) (same_list r rest one.names one.tables both.1)

pub keeps_text : (p : Program) → KeepsText p
keeps_text p h = same_list p (calls_within p (length p.functions)) 0 p.main [] (Rattle.dp_calls.specs.Tables.first_tables p) h

abbrev hidden_calls : List Stmt → Bool
hidden_calls xs = has_call_in (Rattle.dp_tree.specs.declared.Stmt.TheBlock.hidden-the_row-Stmt-0 xs)

-- no call stands in these statements
abbrev None : List Stmt → Type 0
None statements = list_any has_call statements ≡ false

calls_hidden : (xs : List Stmt) → hidden_calls xs ≡ list_any has_call xs
unfolding opened_statement
calls_hidden [] = refl
calls_hidden (x ∷ xs) = ap (λ (b : Bool). has_call x || b) (calls_hidden xs)

none-If : (site : SiteId) (cond : Expr) (a b : List Stmt) → None a → None b → has_call (stmt.If site cond a b) ≡ false
unfolding opened_statement
none-If site cond a b h k = or_make (hidden_calls a) (hidden_calls b) (calls_hidden a ∙ h) (calls_hidden b ∙ k)

none-While : (site : SiteId) (cond : Expr) (a : List Stmt) → None a → has_call (stmt.While site cond a) ≡ false
unfolding opened_statement
none-While site cond a h = calls_hidden a ∙ h

none-Region : (r : ℕ) (site : SiteId) (cond : Expr) (a : List Stmt) → None a → has_call (stmt.Region r site cond a) ≡ false
unfolding opened_statement
none-Region r site cond a h = calls_hidden a ∙ h

none-one : (s : Stmt) → has_call s ≡ false → None (s ∷ [])
none-one s h = or_make (has_call s) false h refl

none-join : (a b : List Stmt) → None a → None b → None (a ++ b)
none-join [] b h k = k
none-join (x ∷ a) b h k =
    let both = or_false (has_call x) (list_any has_call a) h in
    or_make (has_call x) (list_any has_call (a ++ b)) both.0 (none-join a b both.1 k)

module _ (p : Program) where
  none_bound : (r line : ℕ) (caller : List Renamed) (params : List VarId) (args : List Expr) (names : List Renamed) (t : Tables) →
      None (bindings p r line caller params args names t).code
  none_bound r line caller (x ∷ params) (e ∷ args) names t = none_bound r line caller params args _ _
  none_bound r line caller _ _ names t = refl

  module _ (calls : Calls) (none_called : (f r : ℕ) (names : List Renamed) (t : Tables) → None (calls f r names t).code) where
    mutual
      none_in_one : (r : ℕ) (s : Stmt) (names : List Renamed) (t : Tables) → None (expand_one p calls r s names t).code
      none_in_one r (stmt.If' site cond _ a _ b) names t =
          let left = expand_rows p calls r a names (with_source_site p r site t) in
          let right = expand_rows p calls r b left.names left.tables in
          none-one (stmt.If (new_site t) (renamed names cond) left.code right.code)
          (none-If (new_site t) (renamed names cond) left.code right.code (none_in_rows r a names (with_source_site p r site t))
          (none_in_rows r b left.names left.tables))
      none_in_one r (stmt.While' site cond _ a) names t =
          let body = expand_rows p calls r a names (with_source_site p r site t) in
          none-one (stmt.While (new_site t) (renamed names cond) body.code) (none-While (new_site t) (renamed names cond) body.code
          (none_in_rows r a names (with_source_site p r site t)))
      none_in_one r (stmt.Region' q site cond _ a) names t =
          let body = expand_rows p calls q a names (with_source_site p q site t) in
          none-one (stmt.Region q (new_site t) (renamed names cond) body.code) (none-Region q (new_site t) (renamed names cond) body.code
          (none_in_rows q a names (with_source_site p q site t)))
      none_in_one r (stmt.Call f line args) names t =
          let bound = bindings p r line names (params_in (slice_get p.functions f)) args [] t in
          none-join bound.code (calls f r bound.names bound.tables).code (none_bound r line names (params_in (slice_get p.functions f)) args [] t)
          (none_called f r bound.names bound.tables)
      none_in_one r _ names t = refl

      none_in_rows : {n : _} (r : ℕ) (rows : Row_of-Stmt n) (names : List Renamed) (t : Tables) → None (expand_rows p calls r rows names t).code
      none_in_rows r end_of-Stmt names t = refl
      none_in_rows r (more_of-Stmt s rest) names t =
          let one = expand_one p calls r s names t in
          none-join one.code (expand_rows p calls r rest one.names one.tables).code (none_in_one r s names t) (none_in_rows r rest one.names one.tables)

    none_in_list : (r : ℕ) (statements : List Stmt) (names : List Renamed) (t : Tables) → None (expand_list p calls r statements names t).code
    none_in_list r [] names t = refl
    none_in_list r (s ∷ rest) names t =
        let one = expand_one p calls r s names t in
        none-join one.code (expand_list p calls r rest one.names one.tables).code (none_in_one r s names t) (none_in_list r rest one.names one.tables)

  -- however deep calls nest
  none_called_within : (depth f r : ℕ) (names : List Renamed) (t : Tables) → None (calls_within p depth f r names t).code
  none_called_within zero f r names t = refl
  none_called_within (suc depth) f r names t = none_in_list (calls_within p depth) (none_called_within depth) r (body_in (slice_get p.functions f)) names t

pub leaves_no_call : (p : Program) → LeavesNoCall p
leaves_no_call p = none_in_list p (calls_within p (length p.functions)) (none_called_within p (length p.functions)) 0 p.main [] (first_tables p)
