-- Assignments and declarations without their semicolons, and what a `for` has in its parentheses, read as functions.
use Rattle.std.specs.Prelude.{Bool, true, false, [], ◌∷◌}
use Rattle.dp_tree.specs.declared.raw.Name.{Name as TreeName}
use Rattle.dp_tree.specs.declared.raw.RawExpr.{RawExpr}
use Rattle.dp_tree.specs.declared.raw.RawStmt.{RawStmt}
use Rattle.dp_tree.specs.declared.raw.RawStmt.TheVariants as tree
use Rattle.dp_parse.specs.declared.head.Header.{Header}
use Rattle.dp_tokens.specs.declared.symbol.Symbol.TheVariants.{Int, Assign, OpenParen, CloseParen, OpenBracket, CloseBracket, Semicolon}
use Rattle.dp_tokens.specs.Steps.{Parser, ◌>>=◌, ◌>>◌, ◌<$>◌, pure, sees_symbol, expect, name}
use Rattle.dp_parse.specs.steps.Expressions.{whole}

-- the value after a `=`
unfoldable pub value : Parser RawExpr
value = expect Assign >> whole

unfoldable pub declare : Parser RawStmt
declare = do
  int ← expect Int
  name ← name
  value ← value
  pure (tree.Declare int.line name value)

-- an assignment to an element, from its bracket on
unfoldable pub store : TreeName → Parser RawStmt
store name = do
  expect OpenBracket
  index ← whole
  expect CloseBracket
  value ← value
  pure (tree.Store name index value)

abbrev pub assign_by : TreeName → Bool → Parser RawStmt
assign_by name true = store name
assign_by name false = tree.Assign name <$> value

-- an assignment, from behind its name on
unfoldable pub assign : TreeName → Parser RawStmt
assign name = λ ts. assign_by name (sees_symbol OpenBracket ts) ts

unfoldable pub simple : Parser RawStmt
simple = name >>= assign

abbrev pub first_by : Bool → Parser RawStmt
first_by true = declare
first_by false = simple

-- the initialiser of a `for`
unfoldable pub first : Parser RawStmt
first = λ ts. first_by (sees_symbol Int ts) ts

-- what a `for` has in its parentheses
unfoldable pub head : Parser Header
head = do
  expect OpenParen
  first ← first
  expect Semicolon
  cond ← whole
  expect Semicolon
  step ← simple
  expect CloseParen
  pure (record { first = first ∷ []; cond = cond; step = step ∷ [] })
