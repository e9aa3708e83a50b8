-- The variables of an expanded call: each stands for one of its function.
use Rattle.std.specs.Prelude.{ℕ, ◌==◌, List, [], ◌∷◌, Option, Some, None, if◌then◌else◌}
use Rattle.dp_base.specs.declared.VarId.{VarId}
use Rattle.dp_tree.specs.declared.Expr.{Expr, end_of-Expr, more_of-Expr}
use Rattle.dp_tree.specs.declared.Expr.TheVariants.{Number, Input, Input', InputLen, Scalar, Element, Element', Unary, Unary', Binary, Binary', And, And', Or}
use Rattle.dp_tree.specs.declared.Expr.TheVariants.{Or'}

-- a local or parameter of a function or of `main`, and the variable that stands for it here
pub record Renamed : Type 0 where
  pub source : ℕ
  pub target : ℕ

-- the variable that stands for x, if there is one yet
abbrev pub named_in : List Renamed → ℕ → Option ℕ
named_in [] x = None
named_in (n ∷ rest) x = if n.source == x then Some n.target else named_in rest x

-- the one that is found, or else x itself
abbrev pub target_or : Option ℕ → ℕ → VarId
target_or (Some y) x = record { 0 = y }
target_or None x = record { 0 = x }

-- the same; a file-scope variable keeps its number
abbrev pub target_of : List Renamed → VarId → VarId
target_of names x = target_or (named_in names x.0) x.0

-- the expression with each variable replaced by the one that stands for it
abbrev pub renamed : List Renamed → Expr → Expr
renamed names (Number n) = Number n
renamed names (Input' _ (more_of-Expr e end_of-Expr)) = Input (renamed names e)
renamed names InputLen = InputLen
renamed names (Scalar x) = Scalar (target_of names x)
renamed names (Element' x _ (more_of-Expr e end_of-Expr)) = Element (target_of names x) (renamed names e)
renamed names (Unary' op _ (more_of-Expr e end_of-Expr)) = Unary op (renamed names e)
renamed names (Binary' op _ (more_of-Expr a end_of-Expr) _ (more_of-Expr b end_of-Expr)) = Binary op (renamed names a) (renamed names b)
renamed names (And' _ (more_of-Expr a end_of-Expr) _ (more_of-Expr b end_of-Expr)) = And (renamed names a) (renamed names b)
renamed names (Or' _ (more_of-Expr a end_of-Expr) _ (more_of-Expr b end_of-Expr)) = Or (renamed names a) (renamed names b)
