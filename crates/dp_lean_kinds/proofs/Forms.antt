-- The form of each statement's values, and how many sites there are.
use Rattle.std.proofs.Common.{◌≡◌, refl, ap, ◌∙◌, append-nil, ℕ, List, [], ◌∷◌}
use Rattle.dp_base.specs.declared.SiteId.{SiteId}
use Rattle.dp_base.specs.declared.VarId.{VarId}
use Rattle.dp_tree.specs.declared.Expr.{Expr}
use Rattle.dp_tree.specs.declared.Stmt.{Stmt}
use Rattle.dp_tree.specs.declared.Stmt.TheVariants as tree
use Rattle.dp_plan.proofs.LoadLemmas.{opened}
unfoldable use Rattle.dp_lean_kinds.specs.ColumnKinds.{formed_at}
use Rattle.dp_lean_kinds.specs.declared.form.SiteForm.TheVariants as form

pub formed-Assign : (site : SiteId) (x : VarId) (e : Expr) → formed_at (tree.Assign site x e) ≡ record { site = site; form = form.Stored x } ∷ []
unfolding formed_at
formed-Assign site x e = refl

pub formed-Store : (site : SiteId) (x : VarId) (i e : Expr) → formed_at (tree.Store site x i e) ≡ record { site = site; form = form.Stored x } ∷ []
unfolding formed_at
formed-Store site x i e = refl

pub formed-Print : (site : SiteId) (e : Expr) → formed_at (tree.Print site e) ≡ record { site = site; form = form.Single } ∷ []
unfolding formed_at
formed-Print site e = refl

pub formed-If : (site : SiteId) (e : Expr) (a b : List Stmt) → formed_at (tree.If site e a b) ≡ record { site = site; form = form.Single } ∷ []
unfolding formed_at opened
formed-If site e a b = refl

pub formed-While : (site : SiteId) (e : Expr) (a : List Stmt) → formed_at (tree.While site e a) ≡ record { site = site; form = form.Single } ∷ []
unfolding formed_at opened
formed-While site e a = refl

pub formed-Region : (r : ℕ) (site : SiteId) (e : Expr) (a : List Stmt) → formed_at (tree.Region r site e a) ≡ record { site = site; form = form.Single } ∷ []
unfolding formed_at opened
formed-Region r site e a = refl

pub formed-Break : (site : SiteId) (e : Expr) → formed_at (tree.Break site e) ≡ record { site = site; form = form.Single } ∷ []
unfolding formed_at
formed-Break site e = refl

pub formed-Call : (f line : ℕ) (args : List Expr) → formed_at (tree.Call f line args) ≡ []
unfolding formed_at
formed-Call f line args = refl

pub ruleset formed_forms = (append-nil, formed-Assign, formed-Store, formed-Print, formed-If, formed-While, formed-Region, formed-Break, formed-Call)
