-- The words of an expression by its form.
use Rattle.std.proofs.Common.{◌≡◌, refl, ℤ, ◌++◌, append_assoc, codes}
use Rattle.dp_base.specs.declared.VarId.{VarId}
use Rattle.dp_base.specs.declared.UnOp.{UnOp}
use Rattle.dp_base.specs.declared.BinOp.{BinOp}
use Rattle.dp_text.specs.Labels.{labelled}
use Rattle.dp_tree.specs.declared.Expr.{Expr}
use Rattle.dp_tree.specs.declared.Expr.TheVariants as expr
use Rattle.dp_tree_text.specs.ExprText.{binary_name, expr_text, number_text, unary_name}
use Rattle.dp_tree_text.proofs.Opened.{opened}

pub text-Number : (n : ℤ) → expr_text (expr.Number n) ≡ number_text n
unfolding expr_text
text-Number n = refl

pub text-InputLen : expr_text expr.InputLen ≡ codes " input_len"
unfolding expr_text
text-InputLen = refl

pub text-Scalar : (x : VarId) → expr_text (expr.Scalar x) ≡ labelled (codes " scalar ") x.0
unfolding expr_text
text-Scalar x = refl

pub text-Input : (e : Expr) → expr_text (expr.Input e) ≡ codes " input" ++ expr_text e
unfolding expr_text opened
text-Input e = refl

pub text-Element : (x : VarId) (e : Expr) → expr_text (expr.Element x e) ≡ labelled (codes " element ") x.0 ++ expr_text e
unfolding expr_text opened
text-Element x e = refl

pub text-Unary : (op : UnOp) (e : Expr) → expr_text (expr.Unary op e) ≡ unary_name op ++ expr_text e
unfolding expr_text opened
text-Unary op e = refl

pub text-Binary : (op : BinOp) (a b : Expr) → expr_text (expr.Binary op a b) ≡ binary_name op ++ (expr_text a ++ expr_text b)
unfolding expr_text opened
text-Binary op a b = refl

pub text-And : (a b : Expr) → expr_text (expr.And a b) ≡ codes " &&" ++ (expr_text a ++ expr_text b)
unfolding expr_text opened
text-And a b = refl

pub text-Or : (a b : Expr) → expr_text (expr.Or a b) ≡ codes " ||" ++ (expr_text a ++ expr_text b)
unfolding expr_text opened
text-Or a b = refl

pub ruleset expr_forms = (text-Number, text-InputLen, text-Scalar, text-Input, text-Element, text-Unary, text-Binary, text-And, text-Or, append_assoc)
