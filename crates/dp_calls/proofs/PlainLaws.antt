-- The regions of an expanded program are those of `main`, in the same order, each with its sites in the table.
use Rattle.std.proofs.Common.{◌≡◌, refl, ap, ◌∙◌, ℕ, zero, suc, ◌+◌, ◌==◌, Bool, true, false, List, [], ◌∷◌, ◌++◌, length, slice_get}
use Rattle.std.specs.List.{list_all}
use Rattle.dp_base.specs.declared.SiteId.{SiteId}
use Rattle.dp_base.specs.declared.VarId.{VarId}
use Rattle.dp_tree.specs.declared.Expr.{Expr}
use Rattle.dp_tree.specs.declared.Stmt.{Stmt, Row_of-Stmt, end_of-Stmt, more_of-Stmt}
use Rattle.dp_tree.specs.declared.Stmt.TheVariants as stmt
use Rattle.dp_tree.specs.declared.Function.{Function}
use Rattle.dp_tree.specs.declared.Program.{Program}
use Rattle.dp_tree.specs.Functions.{body_in, params_in}
use Rattle.dp_tree.specs.Numbering.{is_plain, is_plain_in, is_inner, is_inner_in, top_fits, next_region, regions_in_order}
use Rattle.dp_tree.specs.Checked.{IsChecked, is_plain_function}
use Rattle.dp_tree.proofs.Heads.{opened_statement, and_true, and_make}
use Rattle.dp_tree.proofs.Inner.{hidden_inner, hidden_plain, inner_hidden, inner_plain, inner_join, plain_hidden}
use Rattle.dp_calls.specs.Renaming.{Renamed, named_in, renamed}
use Rattle.dp_calls.specs.Tables.{Tables, first_tables, with_source_site, new_site}
use Rattle.dp_calls.specs.Expand.{Piece, Calls, expand, bindings, declared_by, is_known, expand_one, expand_rows, expand_list, calls_within}
use Rattle.dp_tree.proofs.PlainLists.{plain_front}

plain-If : (site : SiteId) (cond : Expr) (a b : List Stmt) → list_all is_plain a ≡ true → list_all is_plain b ≡ true → is_plain (stmt.If site cond a b) ≡ true
unfolding opened_statement
plain-If site cond a b h k = and_make (hidden_plain a) (hidden_plain b) (plain_hidden a ∙ h) (plain_hidden b ∙ k)

plain-While : (site : SiteId) (cond : Expr) (a : List Stmt) → list_all is_plain a ≡ true → is_plain (stmt.While site cond a) ≡ true
unfolding opened_statement
plain-While site cond a h = plain_hidden a ∙ h

plain_join : (a b : List Stmt) → list_all is_plain a ≡ true → list_all is_plain b ≡ true → list_all is_plain (a ++ b) ≡ true
plain_join [] b h k = k
plain_join (x ∷ a) b h k =
    let both = and_true (is_plain x) (list_all is_plain a) h in
    and_make (is_plain x) (list_all is_plain (a ++ b)) both.0 (plain_join a b both.1 k)

plain_alone : (s : Stmt) → is_plain s ≡ true → list_all is_plain (s ∷ []) ≡ true
plain_alone s h = and_make (is_plain s) true h refl

-- no region stands in the piece, and none is added to the tables
abbrev pub Plain : Tables → Piece → Type 0
Plain t a = (list_all is_plain a.code ≡ true) × (a.tables.regions ≡ t.regions)

plain_joined : (t : Tables) (a b : Piece) → Plain t a → Plain a.tables b → Plain t (record b { code = a.code ++ b.code })
plain_joined t a b h k = (plain_join a.code b.code h.0 k.0, k.1 ∙ h.1)

-- the same, but for breaks at the top
abbrev pub Inner : Tables → Piece → Type 0
Inner t a = (list_all is_inner a.code ≡ true) × (a.tables.regions ≡ t.regions)

inner_joined : (t : Tables) (a b : Piece) → Inner t a → Inner a.tables b → Inner t (record b { code = a.code ++ b.code })
inner_joined t a b h k = (inner_join a.code b.code h.0 k.0, k.1 ∙ h.1)

module _ (p : Program) where
  declared_regions : (b : Bool) (r x : ℕ) (names : List Renamed) (t : Tables) → (declared_by b p r x names t).tables.regions ≡ t.regions
  declared_regions true r x names t = refl
  declared_regions false r x names t = refl

  plain_bindings : (r line : ℕ) (caller : List Renamed) (params : List VarId) (args : List Expr) (names : List Renamed) (t : Tables) →
      Plain t (bindings p r line caller params args names t)
  plain_bindings r line caller (x ∷ params) (e ∷ args) names t = plain_bindings r line caller params args _ _
  plain_bindings r line caller _ _ names t = (refl, refl)

  module _ (calls : Calls) (called : (f r : ℕ) (names : List Renamed) (t : Tables) → Plain t (calls f r names t)) where
    mutual
      pub plain_one : (r : ℕ) (s : Stmt) (names : List Renamed) (t : Tables) → is_plain s ≡ true → Plain t (expand_one p calls r s names t)
      plain_one r (stmt.Assign site x e) names t h = (refl, declared_regions (is_known p (named_in names x.0) x.0) r x.0 names (with_source_site p r site t))
      plain_one r (stmt.If' site cond _ a _ b) names t h =
          let both = and_true (is_plain_in a) (is_plain_in b) h in let left = expand_rows p calls r a names (with_source_site p r site t) in
          let right = expand_rows p calls r b left.names left.tables in let l = plain_rows r a names (with_source_site p r site t) both.0 in
          let m = plain_rows r b left.names left.tables both.1 in (
            plain_alone (stmt.If (new_site t) (renamed names cond) left.code right.code) (plain-If (new_site t) (renamed names cond) left.code right.code
                l.0 m.0),
            m.1 ∙ l.1,
          )
      plain_one r (stmt.While' site cond _ a) names t h =
          let body = expand_rows p calls r a names (with_source_site p r site t) in
          let l = plain_rows r a names (with_source_site p r site t) h in
          (plain_alone (stmt.While (new_site t) (renamed names cond) body.code) (plain-While (new_site t) (renamed names cond) body.code l.0), l.1)
      plain_one r (stmt.Region' q site cond _ a) names t h = absurd (cc)
      plain_one r (stmt.Break site cond) names t h = absurd (cc)
      plain_one r (stmt.Call f line args) names t h =
          let bound = bindings p r line names (params_in (slice_get p.functions f)) args [] t in
          plain_joined t bound (calls f r bound.names bound.tables) (plain_bindings r line names (params_in (slice_get p.functions f)) args [] t)
          (called f r bound.names bound.tables)
      plain_one r _ names t h = (refl, refl)

      pub plain_rows : {n : _} (r : ℕ) (rows : Row_of-Stmt n) (names : List Renamed) (t : Tables) → is_plain_in rows ≡ true →
          Plain t (expand_rows p calls r rows names t)
      plain_rows r end_of-Stmt names t h = (refl, refl)
      plain_rows r (more_of-Stmt s rest) names t h =
          let both = and_true (is_plain s) (is_plain_in rest) h in let one = expand_one p calls r s names t in
          plain_joined t one (expand_rows p calls r rest one.names one.tables) (plain_one r s names t both.0) (plain_rows r rest one.names one.tables both.1)

    -- the same of a region's body, where breaks stand too
    inner_one : (r : ℕ) (s : Stmt) (names : List Renamed) (t : Tables) → is_inner s ≡ true → Inner t (expand_one p calls r s names t)
    inner_one r (stmt.Region' q site cond c a) names t h = absurd (cc)
    inner_one r (stmt.Break site e) names t h = (refl, refl)
    inner_one r s names t h = let k = plain_one r s names t h in (inner_plain (expand_one p calls r s names t).code k.0, k.1)

    pub inner_rows : {n : _} (r : ℕ) (rows : Row_of-Stmt n) (names : List Renamed) (t : Tables) → is_inner_in rows ≡ true →
        Inner t (expand_rows p calls r rows names t)
    inner_rows r end_of-Stmt names t h = (refl, refl)
    inner_rows r (more_of-Stmt s rest) names t h =
        let both = and_true (is_inner s) (is_inner_in rest) h in let one = expand_one p calls r s names t in
        inner_joined t one (expand_rows p calls r rest one.names one.tables) (inner_one r s names t both.0) (inner_rows r rest one.names one.tables both.1)

    pub plain_list : (r : ℕ) (all : List Stmt) (names : List Renamed) (t : Tables) → list_all is_plain all ≡ true → Plain t (expand_list p calls r all names t)
    plain_list r [] names t h = (refl, refl)
    plain_list r (s ∷ rest) names t h =
        let both = and_true (is_plain s) (list_all is_plain rest) h in let one = expand_one p calls r s names t in
        plain_joined t one (expand_list p calls r rest one.names one.tables) (plain_one r s names t both.0) (plain_list r rest one.names one.tables both.1)

  plain_body : (fs : List Function) (f : ℕ) → list_all is_plain_function fs ≡ true → list_all is_plain (body_in (slice_get fs f)) ≡ true
  plain_body [] f h = refl
  plain_body (fn ∷ fs) zero h = (and_true (is_plain_function fn) (list_all is_plain_function fs) h).0
  plain_body (fn ∷ fs) (suc f) h = plain_body fs f (and_true (is_plain_function fn) (list_all is_plain_function fs) h).1

  module _ (checked : IsChecked p) where
    pub plain_within : (depth f r : ℕ) (names : List Renamed) (t : Tables) → Plain t (calls_within p depth f r names t)
    plain_within zero f r names t = (refl, refl)
    plain_within (suc depth) f r names t =
        plain_list (calls_within p depth) (plain_within depth) r (body_in (slice_get p.functions f)) names t (plain_body p.functions f checked.functions)

region_fits : (r q : ℕ) (site : SiteId) (cond : Expr) (a : List Stmt) → (q == r) ≡ true → list_all is_inner a ≡ true →
    top_fits r (stmt.Region q site cond a) ≡ true
unfolding opened_statement
region_fits r q site cond a e h = and_make (q == r) (hidden_inner a) e (inner_hidden a ∙ h)

region_next : (r q : ℕ) (site : SiteId) (cond : Expr) (a : List Stmt) → next_region r (stmt.Region q site cond a) ≡ r + 1
unfolding opened_statement
region_next r q site cond a = refl

module _ (p : Program) (calls : Calls) (called : (f r : ℕ) (names : List Renamed) (t : Tables) → Plain t (calls f r names t)) where
  -- the regions of these statements keep their order
  abbrev Keeps : List Stmt → Type 0
  Keeps all = (r : ℕ) (names : List Renamed) (t : Tables) → regions_in_order r all ≡ true → regions_in_order r (expand_list p calls 0 all names t).code ≡ true

  regions_plain : (s : Stmt) (rest : List Stmt) → Keeps rest → (r : ℕ) (names : List Renamed) (t : Tables) → is_plain s ≡ true → regions_in_order r rest ≡ true
      → regions_in_order r (expand_list p calls 0 (s ∷ rest) names t).code ≡ true
  regions_plain s rest go r names t h k =
      let one = expand_one p calls 0 s names t in let plain = plain_one p calls called 0 s names t h in
      plain_front r one.code (expand_list p calls 0 rest one.names one.tables).code plain.0 (go r one.names one.tables k)

  regions_top : (s : Stmt) (rest : List Stmt) → Keeps rest → (r : ℕ) (names : List Renamed) (t : Tables) → top_fits r s ≡ true →
      regions_in_order (next_region r s) rest ≡ true
      → regions_in_order r (expand_list p calls 0 (s ∷ rest) names t).code ≡ true
  regions_top (stmt.Region' q site cond c a) rest go r names t h k =
      let both = and_true (q == r) (is_inner_in a) h in let body = expand_rows p calls q a names (with_source_site p q site t) in
      let inner = inner_rows p calls called q a names (with_source_site p q site t) both.1 in
      let one = expand_one p calls 0 (stmt.Region' q site cond c a) names t in
      let s = stmt.Region q (new_site t) (renamed names cond) body.code in
      let after = (expand_list p calls 0 rest one.names one.tables).code in
      and_make (top_fits r s) (regions_in_order (next_region r s) after) (region_fits r q (new_site t) (renamed names cond) body.code both.0 inner.0)
      (ap (λ n. regions_in_order n after) (region_next r q (new_site t) (renamed names cond) body.code) ∙ go (r + 1) one.names one.tables k)
  regions_top (stmt.Break site cond) rest go r names t h k = absurd (cc)
  regions_top s rest go r names t h k = regions_plain s rest go r names t h k

  regions_list : (all : List Stmt) → Keeps all
  regions_list [] r names t h = refl
  regions_list (s ∷ rest) r names t h =
      let both = and_true (top_fits r s) (regions_in_order (next_region r s) rest) h in
      regions_top s rest (regions_list rest) r names t both.0 both.1

pub regions_in_text_order : (p : Program) → IsChecked p → regions_in_order 1 (expand p).main ≡ true
regions_in_text_order p checked =
    regions_list p (calls_within p (length p.functions)) (plain_within p checked (length p.functions)) p.main 1 [] (first_tables p) checked.regions
