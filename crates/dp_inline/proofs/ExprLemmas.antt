-- Each form of expression in the names of an expanded call.
use Rattle.std.proofs.Common.{◌≡◌, refl, ℤ, List}
use Rattle.dp_base.specs.declared.BinOp.{BinOp}
use Rattle.dp_base.specs.declared.UnOp.{UnOp}
use Rattle.dp_base.specs.declared.VarId.{VarId}
use Rattle.dp_tree.specs.declared.Expr.{Expr}
use Rattle.dp_tree.specs.declared.Expr.TheVariants as tree
use Rattle.dp_tree.proofs.EvalLemmas.{opened}
use Rattle.dp_calls.specs.Renaming.{Renamed, target_of}
use Rattle.dp_inline.specs.steps.Written.{expr_in}

module _ (names : List Renamed) where
  pub in-Number : (n : ℤ) → expr_in names (tree.Number n) ≡ tree.Number n
  unfolding expr_in
  in-Number n = refl

  pub in-Input : (e : Expr) → expr_in names (tree.Input e) ≡ tree.Input (expr_in names e)
  unfolding expr_in opened
  in-Input e = refl

  pub in-InputLen : expr_in names tree.InputLen ≡ tree.InputLen
  unfolding expr_in
  in-InputLen = refl

  pub in-Scalar : (x : VarId) → expr_in names (tree.Scalar x) ≡ tree.Scalar (target_of names x)
  unfolding expr_in
  in-Scalar x = refl

  pub in-Element : (x : VarId) (e : Expr) → expr_in names (tree.Element x e) ≡ tree.Element (target_of names x) (expr_in names e)
  unfolding expr_in opened
  in-Element x e = refl

  pub in-Unary : (op : UnOp) (a : Expr) → expr_in names (tree.Unary op a) ≡ tree.Unary op (expr_in names a)
  unfolding expr_in opened
  in-Unary op a = refl

  pub in-Binary : (op : BinOp) (a b : Expr) → expr_in names (tree.Binary op a b) ≡ tree.Binary op (expr_in names a) (expr_in names b)
  unfolding expr_in opened
  in-Binary op a b = refl

  pub in-And : (a b : Expr) → expr_in names (tree.And a b) ≡ tree.And (expr_in names a) (expr_in names b)
  unfolding expr_in opened
  in-And a b = refl

  pub in-Or : (a b : Expr) → expr_in names (tree.Or a b) ≡ tree.Or (expr_in names a) (expr_in names b)
  unfolding expr_in opened
  in-Or a b = refl

pub ruleset expr_forms = (in-Number, in-Input, in-InputLen, in-Scalar, in-Element, in-Unary, in-Binary, in-And, in-Or)
