-- What is asked of a statement for its store, by its form.
use Rattle.std.proofs.Common.{◌≡◌, refl, ℕ, List, [], ◌∷◌}
use Rattle.std.proofs.lemmas.List.{append-nil}
use Rattle.dp_base.specs.declared.SiteId.{SiteId}
use Rattle.dp_base.specs.declared.VarId.{VarId}
use Rattle.dp_tree.specs.declared.Expr.{Expr}
use Rattle.dp_tree.specs.declared.Stmt.{Stmt}
use Rattle.dp_tree.specs.declared.Stmt.TheVariants as tree
unfoldable use Rattle.dp_lean_region.specs.steps.Fed.{stored_at}

pub stored-Assign : (site : SiteId) (x : VarId) (e : Expr) → stored_at (tree.Assign site x e) ≡ record { site = site; var = x } ∷ []
unfolding stored_at
stored-Assign site x e = refl

pub stored-Store : (site : SiteId) (x : VarId) (i e : Expr) → stored_at (tree.Store site x i e) ≡ record { site = site; var = x } ∷ []
unfolding stored_at
stored-Store site x i e = refl

pub stored-Print : (site : SiteId) (e : Expr) → stored_at (tree.Print site e) ≡ []
unfolding stored_at
stored-Print site e = refl

pub stored-If : (site : SiteId) (e : Expr) (a b : List Stmt) → stored_at (tree.If site e a b) ≡ []
unfolding stored_at
stored-If site e a b = refl

pub stored-While : (site : SiteId) (e : Expr) (a : List Stmt) → stored_at (tree.While site e a) ≡ []
unfolding stored_at
stored-While site e a = refl

pub stored-Region : (r : ℕ) (site : SiteId) (e : Expr) (a : List Stmt) → stored_at (tree.Region r site e a) ≡ []
unfolding stored_at
stored-Region r site e a = refl

pub stored-Break : (site : SiteId) (e : Expr) → stored_at (tree.Break site e) ≡ []
unfolding stored_at
stored-Break site e = refl

pub stored-Call : (f line : ℕ) (args : List Expr) → stored_at (tree.Call f line args) ≡ []
unfolding stored_at
stored-Call f line args = refl

pub ruleset stored_forms = (append-nil, stored-Assign, stored-Store, stored-Print, stored-If, stored-While, stored-Region, stored-Break, stored-Call)
