-- Expressions in prefix notation: an operator comes before its operands, of which it has a fixed number, and each word stands behind a space.
use Rattle.std.specs.Prelude.{ℕ, ℤ, List, ◌++◌, codes}
use Rattle.std.specs.Fmt.{signed_decimal}
use Rattle.dp_base.specs.declared.UnOp.{UnOp}
use Rattle.dp_base.specs.declared.UnOp.TheVariants.{Neg, Not}
use Rattle.dp_base.specs.declared.BinOp.{BinOp}
use Rattle.dp_base.specs.declared.BinOp.TheVariants.{Mul, Div, Rem, Add, Sub, Lt, Le, Gt, Ge, Eq, Ne}
use Rattle.dp_text.specs.Labels.{labelled}
use Rattle.dp_tree.specs.declared.Expr.{Expr, end_of-Expr, more_of-Expr}
use Rattle.dp_tree.specs.declared.Expr.TheVariants.{Number, Input', InputLen, Scalar, Element', Unary', Binary', And', Or'}

-- a number
unfoldable pub number_text : ℤ → List ℕ
number_text n = codes " number " ++ signed_decimal n

-- the sign of the language, but for the minus with one operand
abbrev pub unary_name : UnOp → List ℕ
unary_name Neg = codes " negate"
unary_name Not = codes " !"

abbrev pub binary_name : BinOp → List ℕ
binary_name Mul = codes " *"
binary_name Div = codes " /"
binary_name Rem = codes " %"
binary_name Add = codes " +"
binary_name Sub = codes " -"
binary_name Lt = codes " <"
binary_name Le = codes " <="
binary_name Gt = codes " >"
binary_name Ge = codes " >="
binary_name Eq = codes " =="
binary_name Ne = codes " !="

-- the words of an expression; variables are numbers
unfoldable pub expr_text : Expr → List ℕ
expr_text (Number n) = number_text n
expr_text (Input' _ (more_of-Expr e end_of-Expr)) = codes " input" ++ expr_text e
expr_text InputLen = codes " input_len"
expr_text (Scalar x) = labelled (codes " scalar ") x.0
expr_text (Element' x _ (more_of-Expr e end_of-Expr)) = labelled (codes " element ") x.0 ++ expr_text e
expr_text (Unary' op _ (more_of-Expr e end_of-Expr)) = unary_name op ++ expr_text e
expr_text (Binary' op _ (more_of-Expr a end_of-Expr) _ (more_of-Expr b end_of-Expr)) = binary_name op ++ (expr_text a ++ expr_text b)
expr_text (And' _ (more_of-Expr a end_of-Expr) _ (more_of-Expr b end_of-Expr)) = codes " &&" ++ (expr_text a ++ expr_text b)
expr_text (Or' _ (more_of-Expr a end_of-Expr) _ (more_of-Expr b end_of-Expr)) = codes " ||" ++ (expr_text a ++ expr_text b)
