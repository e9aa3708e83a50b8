-- From what an inlined program's text is to what is asked of its sites and of their nesting.
use Rattle.dp_semantics.proofs.Names.{◌≡◌, refl, sym, ap, ◌∙◌, ℕ, ◌<◌, Bool, true, false, ◌||◌, List, ◌++◌, map, Some, None, is_some, nat_le, ltb-true, arith}
use Rattle.dp_semantics.proofs.Names.{map-append, list_all-map, list_all, Expr, end_of-Expr, more_of-Expr, Stmt, Row_of-Stmt, end_of-Stmt, more_of-Stmt}
use Rattle.dp_semantics.proofs.Names.{Program, Plan, Access, accesses, accesses_in, loaded_by, stage_of, assumed_in, none_earlier, well_nested, well_nested_in}
use Rattle.dp_semantics.proofs.Names.{and_parts, and_from, or_parts}
use Rattle.dp_tree.specs.declared.Expr.TheVariants as expr
use Rattle.dp_tree.specs.declared.Stmt.TheVariants as tree
use Rattle.dp_tree.specs.Inlined.{expr_within, has_call, has_call_in, rows_within, stmt_within}
use Rattle.dp_tree.proofs.Asked.{asked_both}
use Rattle.dp_tree.specs.Numbering.{is_inner, is_inner_in, is_plain, is_plain_in}
use Rattle.dp_plan.specs.declared.Enclosing.{Enclosing}
use Rattle.dp_plan.specs.Access.{access_at}
use Rattle.dp_plan.specs.Enclosing.{if_at, ifs, ifs_in, inner_whiles, inner_whiles_in}
use Rattle.dp_plan.specs.Written.{access_site}
use Rattle.dp_semantics.proofs.Setting.{Each, each_split, each_join}

-- the variables that the site names are among the first n
abbrev pub Within : ℕ → Access → Type 0
Within n a = Each (λ x. x < n) a.loads × ((x : ℕ) → a.stores ≡ Some x → x < n)

abbrev Low : ℕ → List ℕ → Type 0
Low n xs = Each (λ x. x < n) xs

loads_within : (n : ℕ) (e : Expr) → expr_within n e ≡ true → Low n (loaded_by e)
loads_within n (expr.Number z) w = tt
loads_within n (expr.Input' _ (more_of-Expr e end_of-Expr)) w = loads_within n e w
loads_within n expr.InputLen w = tt
loads_within n (expr.Scalar x) w = (ltb-true x.0 n w, tt)
loads_within n (expr.Element' x _ (more_of-Expr e end_of-Expr)) w = let both = and_parts _ _ w in (ltb-true x.0 n both.0, loads_within n e both.1)
loads_within n (expr.Unary' op _ (more_of-Expr e end_of-Expr)) w = loads_within n e w
loads_within n (expr.Binary' op _ (more_of-Expr a end_of-Expr) _ (more_of-Expr b end_of-Expr)) w =
    let both = and_parts _ _ w in each_join (λ x. x < n) _ _ (loads_within n a both.0) (loads_within n b both.1)
loads_within n (expr.And' _ (more_of-Expr a end_of-Expr) _ (more_of-Expr b end_of-Expr)) w =
    let both = and_parts _ _ w in each_join (λ x. x < n) _ _ (loads_within n a both.0) (loads_within n b both.1)
loads_within n (expr.Or' _ (more_of-Expr a end_of-Expr) _ (more_of-Expr b end_of-Expr)) w =
    let both = and_parts _ _ w in each_join (λ x. x < n) _ _ (loads_within n a both.0) (loads_within n b both.1)

some_within : (n x : ℕ) → x < n → (y : ℕ) → Some x ≡ Some y → y < n
some_within n x low y e = let same : x ≡ y = cc in omega (arith, low, same)

none_within : (n y : ℕ) → None ≡ Some y → y < n
none_within n y e = absurd (cc)

mutual
  pub sites_within : (n : ℕ) (x : Stmt) → stmt_within n x ≡ true → Each (Within n) (accesses x)
  sites_within n (tree.Assign site x e) w = let both = and_parts _ _ w in ((loads_within n e both.1, some_within n x.0 (ltb-true x.0 n both.0)), tt)
  sites_within n (tree.Store site x index e) w =
      let both = and_parts _ _ w in
      let parts = and_parts _ _ both.1 in
      ((each_join (λ x. x < n) _ _ (loads_within n index parts.0) (loads_within n e parts.1), some_within n x.0 (ltb-true x.0 n both.0)), tt)
  sites_within n (tree.Print site e) w = ((loads_within n e w, none_within n), tt)
  sites_within n (tree.If' site cond _ a _ b) w =
      let both = and_parts _ _ w in
      let parts = and_parts _ _ both.1 in
      ((loads_within n cond both.0, none_within n), each_join (Within n) _ _ (sites_within_in n a parts.0) (sites_within_in n b parts.1))
  sites_within n (tree.While' site cond _ a) w = let both = and_parts _ _ w in ((loads_within n cond both.0, none_within n), sites_within_in n a both.1)
  sites_within n (tree.Region' r site cond _ a) w = let both = and_parts _ _ w in ((loads_within n cond both.0, none_within n), sites_within_in n a both.1)
  sites_within n (tree.Break site cond) w = ((loads_within n cond w, none_within n), tt)
  sites_within n (tree.Call f line args) w = tt

  sites_within_in : {m : _} (n : ℕ) (row : Row_of-Stmt m) → rows_within n row ≡ true → Each (Within n) (accesses_in row)
  sites_within_in n end_of-Stmt w = tt
  sites_within_in n (more_of-Stmt x rest) w = let both = and_parts _ _ w in each_join (Within n) _ _ (sites_within n x both.0) (sites_within_in n rest both.1)

-- the condition of an `if` is one of the sites
module _ (Q : ℕ → Type 0) where
  abbrev At : Access → Type 0
  At a = Q a.site

  abbrev Of : Enclosing → Type 0
  Of e = Q e.site

  if_own : (x : Stmt) → Each At (access_at x) → Each Of (if_at x)
  if_own (tree.If' site cond _ a _ b) h = (h.0, tt)
  if_own _ h = tt

  pub ifs_at : (x : Stmt) → Each At (accesses x) → Each Of (ifs x)
  ifs_at x = asked_both (λ (xs : List Access) (es : List Enclosing). Each At xs → Each Of es) (λ h. tt)
      (λ a b c d p q h. let both = each_split At a b h in each_join Of c d (p both.0) (q both.1)) access_at if_at if_own x

module _ (p : Program) (plan : Plan) where
  abbrev pub none_before : Enclosing → Bool
  none_before e = list_all (λ site. nat_le (stage_of p plan e.site) (stage_of p plan site)) e.inside

  abbrev pub InTime : Enclosing → Type 0
  InTime e = none_before e ≡ true

  abbrev pub Ruled : Enclosing → Type 0
  Ruled e = (is_some (assumed_in plan.assume e.site) || none_before e) ≡ true

  earlier_is : (site : ℕ) (inside : List Access) → none_earlier p plan site inside ≡ list_all (λ n. nat_le (stage_of p plan site) (stage_of p plan n))
      (map access_site inside)
  earlier_is site inside = sym (list_all-map (λ n. nat_le (stage_of p plan site) (stage_of p plan n)) access_site inside)

  mutual
    -- Statements without calls and regions, whose conditions come in time, are well nested.
    well_by : (x : Stmt) → is_plain x ≡ true → has_call x ≡ false → Each InTime (inner_whiles x) → Each Ruled (ifs x) → well_nested p plan x ≡ true
    well_by (tree.If' site cond _ a _ b) plain none whiles told =
        let bare = and_parts _ _ plain in
        let calls = or_parts _ _ none in
        let both = each_split InTime (inner_whiles_in a) (inner_whiles_in b) whiles in
        let rest = each_split Ruled (ifs_in a) (ifs_in b) told.1 in
        and_from _ _ (ap (λ (t : Bool). is_some (assumed_in plan.assume site.0) || t) (earlier_is site.0 (accesses_in a ++ accesses_in b)
        ∙ ap (λ ns. list_all (λ n. nat_le (stage_of p plan site.0) (stage_of p plan n)) ns) (map-append access_site (accesses_in a) (accesses_in b))) ∙ told.0)
        (and_from _ _ (well_by_in a bare.0 calls.0 both.0 rest.0) (well_by_in b bare.1 calls.1 both.1 rest.1))
    well_by (tree.While' site cond _ a) plain none whiles told =
        and_from _ _ (earlier_is site.0 (accesses_in a) ∙ whiles.0) (well_by_in a plain none whiles.1 told)
    well_by (tree.Region' r site cond _ a) plain none whiles told = absurd (cc)
    well_by (tree.Call f line args) plain none whiles told = absurd (cc)
    well_by _ plain none whiles told = refl

    well_by_in : {n : _} (row : Row_of-Stmt n) → is_plain_in row ≡ true → has_call_in row ≡ false → Each InTime (inner_whiles_in row) →
        Each Ruled (ifs_in row) → well_nested_in p plan row ≡ true
    well_by_in end_of-Stmt plain none whiles told = refl
    well_by_in (more_of-Stmt x rest) plain none whiles told =
        let bare = and_parts _ _ plain in
        let calls = or_parts _ _ none in
        let both = each_split InTime (inner_whiles x) (inner_whiles_in rest) whiles in
        let ruled = each_split Ruled (ifs x) (ifs_in rest) told in
        and_from _ _ (well_by x bare.0 calls.0 both.0 ruled.0) (well_by_in rest bare.1 calls.1 both.1 ruled.1)

  -- So are statements of a region's body.
  well_inner : (x : Stmt) → is_inner x ≡ true → has_call x ≡ false → Each InTime (inner_whiles x) → Each Ruled (ifs x) → well_nested p plan x ≡ true
  well_inner (tree.Break site cond) inner none whiles told = refl
  well_inner (tree.Assign site v e) inner none whiles told = refl
  well_inner (tree.Store site v index e) inner none whiles told = refl
  well_inner (tree.Print site e) inner none whiles told = refl
  well_inner (tree.If' site cond l a m b) inner none whiles told = well_by (tree.If' site cond l a m b) inner none whiles told
  well_inner (tree.While' site cond l a) inner none whiles told = well_by (tree.While' site cond l a) inner none whiles told
  well_inner (tree.Region' r site cond l a) inner none whiles told = absurd (cc)
  well_inner (tree.Call f line args) inner none whiles told = absurd (cc)

  pub well_inner_in : {n : _} (row : Row_of-Stmt n) → is_inner_in row ≡ true → has_call_in row ≡ false → Each InTime (inner_whiles_in row) →
      Each Ruled (ifs_in row) → well_nested_in p plan row ≡ true
  well_inner_in end_of-Stmt inner none whiles told = refl
  well_inner_in (more_of-Stmt x rest) inner none whiles told =
      let bare = and_parts _ _ inner in
      let calls = or_parts _ _ none in
      let both = each_split InTime (inner_whiles x) (inner_whiles_in rest) whiles in
      let ruled = each_split Ruled (ifs x) (ifs_in rest) told in
      and_from _ _ (well_inner x bare.0 calls.0 both.0 ruled.0) (well_inner_in rest bare.1 calls.1 both.1 ruled.1)
