-- The variables that an expression may load, by its form.
use Rattle.std.proofs.Common.{◌≡◌, refl, [], ◌∷◌, ◌++◌, append_assoc, append-nil}
use Rattle.dp_base.specs.declared.VarId.{VarId}
use Rattle.dp_base.specs.declared.UnOp.{UnOp}
use Rattle.dp_base.specs.declared.BinOp.{BinOp}
use Rattle.dp_tree.specs.declared.Expr.{Expr}
use Rattle.dp_tree.specs.declared.Expr.TheVariants as expr
use Rattle.dp_plan.proofs.LoadLemmas.{opened}
use Rattle.dp_depend.specs.Lists.{load_list}

pub load-Number : (n : _) → load_list (expr.Number n) ≡ []
unfolding load_list
load-Number n = refl

pub load-InputLen : load_list expr.InputLen ≡ []
unfolding load_list
load-InputLen = refl

pub load-Scalar : (x : VarId) → load_list (expr.Scalar x) ≡ x.0 ∷ []
unfolding load_list
load-Scalar x = refl

pub load-Input : (e : Expr) → load_list (expr.Input e) ≡ load_list e
unfolding load_list opened
load-Input e = refl

pub load-Element : (x : VarId) (e : Expr) → load_list (expr.Element x e) ≡ x.0 ∷ load_list e
unfolding load_list opened
load-Element x e = refl

pub load-Unary : (op : UnOp) (e : Expr) → load_list (expr.Unary op e) ≡ load_list e
unfolding load_list opened
load-Unary op e = refl

pub load-Binary : (op : BinOp) (a b : Expr) → load_list (expr.Binary op a b) ≡ load_list a ++ load_list b
unfolding load_list opened
load-Binary op a b = refl

pub load-And : (a b : Expr) → load_list (expr.And a b) ≡ load_list a ++ load_list b
unfolding load_list opened
load-And a b = refl

pub load-Or : (a b : Expr) → load_list (expr.Or a b) ≡ load_list a ++ load_list b
unfolding load_list opened
load-Or a b = refl

pub ruleset load_forms =
    (load-Number, load-InputLen, load-Scalar, load-Input, load-Element, load-Unary, load-Binary, load-And, load-Or, append_assoc, append-nil)
