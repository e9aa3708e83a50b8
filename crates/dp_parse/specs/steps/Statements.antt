-- Statements, read as functions. The number bounds how deep they nest.
use Rattle.std.specs.Prelude.{ℕ, zero, suc, Bool, true, false, List, [], ◌∷◌, length}
use Rattle.dp_tree.specs.declared.raw.Name.{Name as TreeName}
use Rattle.dp_tree.specs.declared.raw.RawExpr.{RawExpr}
use Rattle.dp_tree.specs.declared.raw.RawStmt.{RawStmt}
use Rattle.dp_tree.specs.declared.raw.RawStmt.TheVariants as tree
use Rattle.dp_tokens.specs.declared.symbol.Symbol.{Symbol}
use Rattle.dp_tokens.specs.declared.symbol.Symbol.TheVariants.{Name, Int, Print, While, For, If, Else, OpenParen, CloseParen, OpenBrace, CloseBrace, Semicolon}
use Rattle.dp_tokens.specs.Steps.{Parser, ◌>>=◌, ◌>>◌, ◌<$>◌, pure, refuse, peek, sees_symbol, eat, expect, name, many}
use Rattle.dp_parse.specs.steps.Expressions.{whole, list}
use Rattle.dp_parse.specs.steps.Heads.{assign, declare, head}

unfoldable pub condition : Parser RawExpr
condition = do
  expect OpenParen
  inside ← whole
  expect CloseParen
  pure inside

abbrev pub arguments_by : Bool → Parser (List RawExpr)
arguments_by true = pure []
arguments_by false = list

unfoldable pub arguments : Parser (List RawExpr)
arguments = λ ts. arguments_by (sees_symbol CloseParen ts) ts

unfoldable pub call : TreeName → Parser RawStmt
call name = do
  expect OpenParen
  args ← arguments
  expect CloseParen
  expect Semicolon
  pure (tree.Call name args)

-- a statement, up to its semicolon
abbrev pub ended : Parser RawStmt → Parser RawStmt
ended p = do
  s ← p
  expect Semicolon
  pure s

abbrev pub named_by : TreeName → Bool → Parser RawStmt
named_by name true = call name
named_by name false = ended (assign name)

-- a statement that begins with a name
unfoldable pub named : Parser RawStmt
named = name >>= (λ name. λ ts. named_by name (sees_symbol OpenParen ts) ts)

unfoldable pub declaration : Parser RawStmt
declaration = ended declare

unfoldable pub print : Parser RawStmt
print = do
  word ← expect Print
  value ← condition
  expect Semicolon
  pure (tree.Print word.line value)

module _ (statement : Parser RawStmt) where
  -- statements in braces
  unfoldable pub block : Parser (List RawStmt)
  block = do
    expect OpenBrace
    body ← (λ ts. many (sees_symbol CloseBrace) statement (length ts) [] ts)
    expect CloseBrace
    pure body

  -- a loop, from its `while` on
  unfoldable pub repeated : Parser RawStmt
  repeated = do
    word ← expect While
    cond ← condition
    body ← block
    pure (tree.While word.line false cond body)

  -- .. and from its `for` on
  unfoldable pub counted : Parser RawStmt
  counted = do
    word ← expect For
    h ← head
    body ← block
    pure (tree.For word.line false h.first h.cond h.step body)

  abbrev pub else_by : Bool → Parser (List RawStmt)
  else_by true = (λ s. s ∷ []) <$> statement
  else_by false = block

  abbrev pub otherwise_by : Bool → Parser (List RawStmt)
  otherwise_by true = λ ts. else_by (sees_symbol If ts) ts
  otherwise_by false = pure []

  -- what follows an `if` and its block
  unfoldable pub otherwise : Parser (List RawStmt)
  otherwise = eat Else >>= otherwise_by

  unfoldable pub choice : Parser RawStmt
  choice = do
    word ← expect If
    cond ← condition
    then_part ← block
    else_part ← otherwise
    pure (tree.If word.line cond then_part else_part)

  abbrev pub statement_by : Symbol → Parser RawStmt
  statement_by Int = declaration
  statement_by Name = named
  statement_by Print = print
  statement_by While = repeated
  statement_by For = counted
  statement_by _ = choice

unfoldable pub statement : ℕ → Parser RawStmt
statement zero = refuse
statement (suc n) = peek >>= statement_by (statement n)
