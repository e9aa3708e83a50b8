-- Where no region stands, region r doesn't, and regions stand at the top of `main` alone.
use Rattle.dp_semantics.proofs.Names.{opened_statement, ◌≡◌, refl, sym, ap, ◌∙◌, ℕ, ◌==◌, Bool, true, false, not, ◌&&◌, ◌||◌, List, [], ◌∷◌, list_all, SiteId}
use Rattle.dp_semantics.proofs.Names.{Expr, Stmt, Row_of-Stmt, end_of-Stmt, more_of-Stmt, hidden-the_row-Stmt-0, is_free, is_free_in, is_region, region_alone}
use Rattle.dp_semantics.proofs.Names.{and_parts, and_from}
use Rattle.dp_tree.specs.declared.Stmt.TheVariants as tree
use Rattle.dp_tree.specs.Numbering.{is_plain, is_plain_in, is_inner, is_inner_in, next_region, regions_in_order, top_fits}
use Rattle.dp_plan.proofs.TopStatements.{Top, marked, unmarked, top}

mutual
  plain_free : (r : ℕ) (x : Stmt) → is_plain x ≡ true → is_free r x ≡ true
  plain_free r (tree.If' site cond _ a _ b) w = let both = and_parts _ _ w in and_from _ _ (plain_free_in r a both.0) (plain_free_in r b both.1)
  plain_free r (tree.While' site cond _ a) w = plain_free_in r a w
  plain_free r (tree.Region' q site cond _ a) w = absurd (cc)
  plain_free r _ w = refl

  plain_free_in : {n : _} (r : ℕ) (row : Row_of-Stmt n) → is_plain_in row ≡ true → is_free_in r row ≡ true
  plain_free_in r end_of-Stmt w = refl
  plain_free_in r (more_of-Stmt x rest) w = let both = and_parts _ _ w in and_from _ _ (plain_free r x both.0) (plain_free_in r rest both.1)

pub inner_free : (r : ℕ) (x : Stmt) → is_inner x ≡ true → is_free r x ≡ true
inner_free r (tree.If' site cond l a m b) w = plain_free r (tree.If' site cond l a m b) w
inner_free r (tree.While' site cond l a) w = plain_free r (tree.While' site cond l a) w
inner_free r (tree.Region' q site cond l a) w = absurd (cc)
inner_free r _ w = refl

pub inner_free_in : {n : _} (r : ℕ) (row : Row_of-Stmt n) → is_inner_in row ≡ true → is_free_in r row ≡ true
inner_free_in r end_of-Stmt w = refl
inner_free_in r (more_of-Stmt x rest) w = let both = and_parts (is_inner x) (is_inner_in rest) w in
    and_from _ _ (inner_free r x both.0) (inner_free_in r rest both.1)

free_made : (r q : ℕ) (site : SiteId) (cond : Expr) (body : List Stmt) →
    is_free r (tree.Region q site cond body) ≡ (not (q == r) && is_free_in r (hidden-the_row-Stmt-0 body))
unfolding opened_statement
free_made r q site cond body = refl

top_alone : (r k : ℕ) (x : Stmt) → Top x → top_fits k x ≡ true → region_alone r x ≡ true
top_alone r k x (unmarked none off next fits) e = ap (λ (b : Bool). b || is_free r x) (none r) ∙ plain_free r x (sym (fits k) ∙ e)
top_alone r k x (marked q site cond body is made on next fits) e =
    ap (λ (b : Bool). b || is_free r x) (ap (is_region r) is) ∙ ap (λ (b : Bool). (q == r) || b) (ap (is_free r) made ∙ free_made r q site cond body)
    ∙ by (q == r) (is_free_in r (hidden-the_row-Stmt-0 body))
    (inner_free_in r (hidden-the_row-Stmt-0 body) (and_parts (q == k) (is_inner_in (hidden-the_row-Stmt-0 body)) (sym (fits k) ∙ e)).1)
  where
    by : (b c : Bool) → c ≡ true → (b || (not b && c)) ≡ true
    by true c f = refl
    by false c f = f

-- Regions stand at the top alone.
pub all_alone : (r k : ℕ) (main : List Stmt) → regions_in_order k main ≡ true → list_all (region_alone r) main ≡ true
all_alone r k [] e = refl
all_alone r k (x ∷ rest) e =
    let parts = and_parts (top_fits k x) (regions_in_order (next_region k x) rest) e in
    and_from (region_alone r x) (list_all (region_alone r) rest) (top_alone r k x (top x) parts.0) (all_alone r (next_region k x) rest parts.1)
