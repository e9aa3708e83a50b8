-- Expressions, read through their levels. The number bounds how deep they nest.
use Rattle.std.specs.Prelude.{ℕ, zero, suc, Bool, true, false, List, [], length, Option, Some, None}
use Rattle.dp_base.specs.declared.UnOp.{UnOp}
use Rattle.dp_tree.specs.declared.raw.Name.{Name as TreeName}
use Rattle.dp_tree.specs.declared.raw.RawExpr.{RawExpr}
use Rattle.dp_tree.specs.declared.raw.RawExpr.TheVariants as tree
use Rattle.dp_tokens.specs.declared.symbol.Symbol.{Symbol}
use Rattle.dp_tokens.specs.declared.symbol.Symbol.TheVariants.{Name, Number, OpenParen, CloseParen, OpenBracket, CloseBracket}
use Rattle.dp_parse.specs.declared.level.Level.{Level}
use Rattle.dp_parse.specs.declared.level.Level.TheVariants as level
use Rattle.dp_parse.specs.declared.level.Join.{Join}
use Rattle.dp_tokens.specs.Symbols.{symbol_at}
use Rattle.dp_parse.specs.Levels.{joined_trees}
use Rattle.dp_tokens.specs.Steps.{Parser, ◌>>=◌, ◌>>◌, ◌<$>◌, pure, refuse, peek, advance, eat, expect, name, separated}
use Rattle.dp_parse.specs.steps.Operators.{join_at, prefix_at}
use Rattle.dp_tokens.specs.Numbers.{number}

-- a chain goes on behind its first operands by the operators of a level
abbrev pub longer : (RawExpr → Parser RawExpr) → Parser RawExpr → RawExpr → Option Join → Parser RawExpr
longer again operand found None = pure found
longer again operand found (Some join) = advance >> operand >>= (λ right. again (joined_trees join found right))

-- the number bounds the turns
unfoldable pub chain : Level → Parser RawExpr → ℕ → RawExpr → Parser RawExpr
chain level operand zero found = pure found
chain level operand (suc n) found = λ ts. longer (chain level operand n) operand found (join_at level (symbol_at ts)) ts

module _ (nested : Level → Parser RawExpr) where
  abbrev pub variable_by : TreeName → Bool → Parser RawExpr
  variable_by name true = do
    index ← nested level.Or
    expect CloseBracket
    pure (tree.Element name index)
  variable_by name false = pure (tree.Scalar name)

  -- the variable of the name, with its index where one follows
  unfoldable pub variable : TreeName → Parser RawExpr
  variable name = eat OpenBracket >>= variable_by name

  unfoldable pub parenthesized : Parser RawExpr
  parenthesized = do
    expect OpenParen
    inside ← nested level.Or
    expect CloseParen
    pure inside

  abbrev pub primary_by : Symbol → Parser RawExpr
  primary_by Number = tree.Number <$> number
  primary_by Name = name >>= variable
  primary_by _ = parenthesized

  unfoldable pub primary : Parser RawExpr
  primary = peek >>= primary_by

  -- a prefix operator of the level and its operand, or else a chain of operands
  abbrev pub level_by : Level → Parser RawExpr → Option UnOp → Parser RawExpr
  level_by level operand (Some op) = advance >> tree.Unary op <$> nested level
  level_by level operand None = operand >>= (λ first. λ ts. chain level operand (length ts) first ts)

  unfoldable pub level_of : Level → Parser RawExpr → Parser RawExpr
  level_of level operand = λ ts. level_by level operand (prefix_at level (symbol_at ts)) ts

  abbrev pub unary : Parser RawExpr
  unary = level_of level.Unary primary

  abbrev pub product : Parser RawExpr
  product = level_of level.Product unary

  abbrev pub sum : Parser RawExpr
  sum = level_of level.Sum product

  abbrev pub relation : Parser RawExpr
  relation = level_of level.Relation sum

  abbrev pub equality : Parser RawExpr
  equality = level_of level.Equality relation

  abbrev pub conjunction : Parser RawExpr
  conjunction = level_of level.And equality

  unfoldable pub expression : Level → Parser RawExpr
  expression level.Or = level_of level.Or conjunction
  expression level.And = conjunction
  expression level.Equality = equality
  expression level.Relation = relation
  expression level.Sum = sum
  expression level.Product = product
  expression level.Unary = unary
  expression level.Primary = primary

-- an expression of the level, which nests at most so deep
unfoldable pub nested : ℕ → Level → Parser RawExpr
nested zero level = refuse
nested (suc n) level = expression (nested n) level

-- each level of nesting takes a token
unfoldable pub whole : Parser RawExpr
whole = λ ts. nested (length ts) level.Or ts

-- one expression or more, with commas between
unfoldable pub list : Parser (List RawExpr)
list = λ ts. separated whole (length ts) [] ts
