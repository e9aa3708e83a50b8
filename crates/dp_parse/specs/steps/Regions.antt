-- Regions, read as functions: an early exit may stand in a region's body.
use Rattle.std.specs.Prelude.{ℕ, Bool, true, false, ◌&&◌, List, [], length}
use Rattle.dp_lex.specs.Token.{Lexeme}
use Rattle.dp_tree.specs.declared.raw.RawExpr.{RawExpr}
use Rattle.dp_tree.specs.declared.raw.RawStmt.{RawStmt}
use Rattle.dp_tree.specs.declared.raw.RawStmt.TheVariants as tree
use Rattle.dp_tokens.specs.declared.symbol.Symbol.TheVariants.{While, For, If, Break, OpenBrace, CloseBrace, Semicolon}
use Rattle.dp_tokens.specs.Steps.{Parser, ◌>>=◌, ◌>>◌, pure, rest, sees_symbol, expect, many}
use Rattle.dp_parse.specs.steps.Heads.{head}
use Rattle.dp_parse.specs.steps.Statements.{condition, block, otherwise}

-- an exit behind its condition, without braces
unfoldable pub bare : ℕ → RawExpr → Parser RawStmt
bare line cond = do
  expect Break
  expect Semicolon
  pure (tree.Break line cond)

-- the same in braces
unfoldable pub braced : ℕ → RawExpr → Parser RawStmt
braced line cond = do
  expect OpenBrace
  s ← bare line cond
  expect CloseBrace
  pure s

-- an exit in braces comes next
unfoldable pub leads_out : List Lexeme → Bool
leads_out ts = sees_symbol OpenBrace ts && sees_symbol Break (rest ts)

module _ (statement : Parser RawStmt) where
  -- an `if` behind its condition
  unfoldable pub branches : ℕ → RawExpr → Parser RawStmt
  branches line cond = do
    then_part ← block statement
    else_part ← otherwise statement
    pure (tree.If line cond then_part else_part)

  abbrev pub tested_by : ℕ → RawExpr → Bool → Bool → Parser RawStmt
  tested_by line cond true braces = bare line cond
  tested_by line cond false true = braced line cond
  tested_by line cond false false = branches line cond

  -- what follows an `if` and its condition
  unfoldable pub tested : ℕ → RawExpr → Parser RawStmt
  tested line cond = λ ts. tested_by line cond (sees_symbol Break ts) (leads_out ts) ts

  unfoldable pub branch : Parser RawStmt
  branch = do
    word ← expect If
    cond ← condition
    tested word.line cond

  abbrev pub inside_by : Bool → Parser RawStmt
  inside_by true = branch
  inside_by false = statement

  -- a statement of a region's body
  unfoldable pub inside : Parser RawStmt
  inside = λ ts. inside_by (sees_symbol If ts) ts

  unfoldable pub body : Parser (List RawStmt)
  body = do
    expect OpenBrace
    found ← (λ ts. many (sees_symbol CloseBrace) inside (length ts) [] ts)
    expect CloseBrace
    pure found

  -- a region, from its `while` on
  unfoldable pub repeated : Parser RawStmt
  repeated = do
    word ← expect While
    cond ← condition
    found ← body
    pure (tree.While word.line true cond found)

  -- .. and from its `for` on
  unfoldable pub counted : Parser RawStmt
  counted = do
    word ← expect For
    h ← head
    found ← body
    pure (tree.For word.line true h.first h.cond h.step found)

  abbrev pub region_by : Bool → Parser RawStmt
  region_by true = counted
  region_by false = repeated

  -- a region, from behind its mark on
  unfoldable pub region : Parser RawStmt
  region = λ ts. region_by (sees_symbol For ts) ts
