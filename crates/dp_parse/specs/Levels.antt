-- The levels of an expression from the loosest to the tightest, and the operators of each.
use Rattle.std.specs.Prelude.{Option, Some, None}
use Rattle.dp_base.specs.declared.BinOp.TheVariants as op
use Rattle.dp_base.specs.declared.UnOp.{UnOp}
use Rattle.dp_base.specs.declared.UnOp.TheVariants as unary
use Rattle.dp_tree.specs.declared.raw.RawExpr.{RawExpr}
use Rattle.dp_tree.specs.declared.raw.RawExpr.TheVariants as tree
use Rattle.dp_tokens.specs.declared.symbol.Symbol.{Symbol}
use Rattle.dp_tokens.specs.declared.symbol.Symbol.TheVariants as symbol
use Rattle.dp_parse.specs.declared.level.Level.{Level}
use Rattle.dp_parse.specs.declared.level.Level.TheVariants.{Or, And, Equality, Relation, Sum, Product, Unary, Primary}
use Rattle.dp_parse.specs.declared.level.Join.{Join}
use Rattle.dp_parse.specs.declared.level.Join.TheVariants as join

-- the level of the operands
abbrev pub operands : Level → Option Level
operands Or = Some And
operands And = Some Equality
operands Equality = Some Relation
operands Relation = Some Sum
operands Sum = Some Product
operands Product = Some Unary
operands Unary = Some Primary
operands Primary = None

-- the level of an infix operator, and what it makes
abbrev pub joining : Symbol → Option (Level × Join)
joining symbol.Or = Some (Or, join.Or)
joining symbol.And = Some (And, join.And)
joining symbol.Equal = Some (Equality, join.Binary op.Eq)
joining symbol.NotEqual = Some (Equality, join.Binary op.Ne)
joining symbol.Less = Some (Relation, join.Binary op.Lt)
joining symbol.LessEqual = Some (Relation, join.Binary op.Le)
joining symbol.Greater = Some (Relation, join.Binary op.Gt)
joining symbol.GreaterEqual = Some (Relation, join.Binary op.Ge)
joining symbol.Plus = Some (Sum, join.Binary op.Add)
joining symbol.Minus = Some (Sum, join.Binary op.Sub)
joining symbol.Star = Some (Product, join.Binary op.Mul)
joining symbol.Slash = Some (Product, join.Binary op.Div)
joining symbol.Percent = Some (Product, join.Binary op.Rem)
joining _ = None

-- the level of a prefix operator, and what it is
abbrev pub prefixing : Symbol → Option (Level × UnOp)
prefixing symbol.Minus = Some (Unary, unary.Neg)
prefixing symbol.Not = Some (Unary, unary.Not)
prefixing _ = None

-- the tree that an infix operator makes of its operands' trees
abbrev pub joined_trees : Join → RawExpr → RawExpr → RawExpr
joined_trees join.Or a b = tree.Or a b
joined_trees join.And a b = tree.And a b
joined_trees (join.Binary op) a b = tree.Binary op a b
