-- Which statements move a variable, by their form.
use Rattle.std.proofs.Common.{◌≡◌, ap, ℕ, ◌==◌, if◌then◌else◌, List, [], None}
use Rattle.dp_base.specs.declared.SiteId.{SiteId}
use Rattle.dp_base.specs.declared.VarId.{VarId}
use Rattle.dp_tree.specs.declared.Expr.{Expr}
use Rattle.dp_tree.specs.declared.Stmt.{Stmt}
use Rattle.dp_tree.specs.declared.Stmt.TheVariants as tree
use Rattle.dp_tree.specs.declared.Stmt.TheVariants.{outs-Assign, outs-Store, outs-Print, outs-If, outs-While, outs-Region, outs-Break, outs-Call}
use Rattle.dp_sites.specs.Place.{step_in}
use Rattle.dp_plan.specs.IsFar.{body_of}
use Rattle.dp_sites.specs.Storings.{body_at, mover_at, mover_by, mover_of}

module _ (v : VarId) where
  pub mover-Assign : (site : SiteId) (x : VarId) (e : Expr) → mover_of v (tree.Assign site x e) ≡ (if x.0 == v.0 then mover_by site (step_in v e) else None)
  unfolding mover_of
  mover-Assign site x e = ap (mover_at v) (outs-Assign site x e)

  pub mover-Store : (site : SiteId) (x : VarId) (i e : Expr) → mover_of v (tree.Store site x i e) ≡ None
  unfolding mover_of
  mover-Store site x i e = ap (mover_at v) (outs-Store site x i e)

  pub mover-Print : (site : SiteId) (e : Expr) → mover_of v (tree.Print site e) ≡ None
  unfolding mover_of
  mover-Print site e = ap (mover_at v) (outs-Print site e)

  pub mover-Break : (site : SiteId) (e : Expr) → mover_of v (tree.Break site e) ≡ None
  unfolding mover_of
  mover-Break site e = ap (mover_at v) (outs-Break site e)

  pub mover-If : (site : SiteId) (e : Expr) (a b : List Stmt) → mover_of v (tree.If site e a b) ≡ None
  unfolding mover_of
  mover-If site e a b = ap (mover_at v) (outs-If site e a b)

  pub mover-While : (site : SiteId) (e : Expr) (a : List Stmt) → mover_of v (tree.While site e a) ≡ None
  unfolding mover_of
  mover-While site e a = ap (mover_at v) (outs-While site e a)

  pub mover-Region : (r : ℕ) (site : SiteId) (e : Expr) (a : List Stmt) → mover_of v (tree.Region r site e a) ≡ None
  unfolding mover_of
  mover-Region r site e a = ap (mover_at v) (outs-Region r site e a)

  pub mover-Call : (f line : ℕ) (args : List Expr) → mover_of v (tree.Call f line args) ≡ None
  unfolding mover_of
  mover-Call f line args = ap (mover_at v) (outs-Call f line args)

pub ruleset mover_forms = (mover-Assign, mover-Store, mover-Print, mover-Break, mover-If, mover-While, mover-Region, mover-Call)

-- ---- the body of a region

pub body-Assign : (site : SiteId) (x : VarId) (e : Expr) → body_at (tree.Assign site x e) ≡ []
unfolding body_at
body-Assign site x e = ap body_of (outs-Assign site x e)

pub body-Store : (site : SiteId) (x : VarId) (i e : Expr) → body_at (tree.Store site x i e) ≡ []
unfolding body_at
body-Store site x i e = ap body_of (outs-Store site x i e)

pub body-Print : (site : SiteId) (e : Expr) → body_at (tree.Print site e) ≡ []
unfolding body_at
body-Print site e = ap body_of (outs-Print site e)

pub body-Break : (site : SiteId) (e : Expr) → body_at (tree.Break site e) ≡ []
unfolding body_at
body-Break site e = ap body_of (outs-Break site e)

pub body-If : (site : SiteId) (e : Expr) (a b : List Stmt) → body_at (tree.If site e a b) ≡ []
unfolding body_at
body-If site e a b = ap body_of (outs-If site e a b)

pub body-While : (site : SiteId) (e : Expr) (a : List Stmt) → body_at (tree.While site e a) ≡ []
unfolding body_at
body-While site e a = ap body_of (outs-While site e a)

pub body-Region : (r : ℕ) (site : SiteId) (e : Expr) (a : List Stmt) → body_at (tree.Region r site e a) ≡ a
unfolding body_at
body-Region r site e a = ap body_of (outs-Region r site e a)

pub body-Call : (f line : ℕ) (args : List Expr) → body_at (tree.Call f line args) ≡ []
unfolding body_at
body-Call f line args = ap body_of (outs-Call f line args)

pub ruleset body_forms = (body-Assign, body-Store, body-Print, body-Break, body-If, body-While, body-Region, body-Call)
