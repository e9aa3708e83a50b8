-- Which statements are a region, by their form.
use Rattle.std.proofs.Common.{◌≡◌, ap, ℕ, ◌==◌, false, List}
use Rattle.dp_base.specs.declared.SiteId.{SiteId}
use Rattle.dp_base.specs.declared.VarId.{VarId}
use Rattle.dp_tree.specs.declared.Expr.{Expr}
use Rattle.dp_tree.specs.declared.Stmt.{Stmt}
use Rattle.dp_tree.specs.declared.Stmt.TheVariants as tree
use Rattle.dp_tree.specs.declared.Stmt.TheVariants.{outs-Assign, outs-Store, outs-Print, outs-If, outs-While, outs-Region, outs-Break, outs-Call}
use Rattle.dp_tree.specs.Iteration.{is_region}
use Rattle.dp_plan.specs.Walks.{is_region_of}

module _ (r : ℕ) where
  pub region-Assign : (site : SiteId) (x : VarId) (e : Expr) → is_region_of r (tree.Assign site x e) ≡ false
  unfolding is_region_of
  region-Assign site x e = ap (is_region r) (outs-Assign site x e)

  pub region-Store : (site : SiteId) (x : VarId) (i e : Expr) → is_region_of r (tree.Store site x i e) ≡ false
  unfolding is_region_of
  region-Store site x i e = ap (is_region r) (outs-Store site x i e)

  pub region-Print : (site : SiteId) (e : Expr) → is_region_of r (tree.Print site e) ≡ false
  unfolding is_region_of
  region-Print site e = ap (is_region r) (outs-Print site e)

  pub region-Break : (site : SiteId) (e : Expr) → is_region_of r (tree.Break site e) ≡ false
  unfolding is_region_of
  region-Break site e = ap (is_region r) (outs-Break site e)

  pub region-If : (site : SiteId) (e : Expr) (a b : List Stmt) → is_region_of r (tree.If site e a b) ≡ false
  unfolding is_region_of
  region-If site e a b = ap (is_region r) (outs-If site e a b)

  pub region-While : (site : SiteId) (e : Expr) (a : List Stmt) → is_region_of r (tree.While site e a) ≡ false
  unfolding is_region_of
  region-While site e a = ap (is_region r) (outs-While site e a)

  pub region-Region : (q : ℕ) (site : SiteId) (e : Expr) (a : List Stmt) → is_region_of r (tree.Region q site e a) ≡ (q == r)
  unfolding is_region_of
  region-Region q site e a = ap (is_region r) (outs-Region q site e a)

  pub region-Call : (f line : ℕ) (args : List Expr) → is_region_of r (tree.Call f line args) ≡ false
  unfolding is_region_of
  region-Call f line args = ap (is_region r) (outs-Call f line args)

pub ruleset region_forms = (region-Assign, region-Store, region-Print, region-Break, region-If, region-While, region-Region, region-Call)
