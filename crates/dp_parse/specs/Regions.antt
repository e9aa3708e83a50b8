-- Regions by the grammar, with one case for each rule.
use Rattle.std.specs.Prelude.{List, [], ◌∷◌}
use Rattle.dp_lex.specs.Token.{Lexeme}
use Rattle.dp_tree.specs.declared.raw.RawExpr.{RawExpr}
use Rattle.dp_tree.specs.declared.raw.RawStmt.{RawStmt}
use Rattle.dp_tree.specs.declared.raw.RawStmt.TheVariants as tree
use Rattle.dp_tokens.specs.declared.symbol.Symbol.TheVariants.{If, Break, OpenBrace, CloseBrace, Semicolon}
use Rattle.dp_tokens.specs.Symbols.{Is}
use Rattle.dp_parse.specs.Statements.{DerivesCondition, DerivesStatement}

-- an early exit
pub data DerivesExit : List Lexeme → List Lexeme → RawStmt → Type 0 where
  -- "if" "(" expr ")" "break" ";"
  bare : {word leave end : Lexeme} {from to : List Lexeme} {e : RawExpr} →
      Is If word → DerivesCondition from (leave ∷ end ∷ to) e → Is Break leave → Is Semicolon end → DerivesExit (word ∷ from) to (tree.Break word.line e)
  -- "if" "(" expr ")" "{" "break" ";" "}"
  braced : {word opening leave end closing : Lexeme} {from to : List Lexeme} {e : RawExpr} →
      Is If word → DerivesCondition from (opening ∷ leave ∷ end ∷ closing ∷ to) e → Is OpenBrace opening → Is Break leave → Is Semicolon end →
      Is CloseBrace closing →
      DerivesExit (word ∷ from) to (tree.Break word.line e)

-- { statement | exit }
pub data DerivesInside : List Lexeme → List Lexeme → List RawStmt → Type 0 where
  none : {to : List Lexeme} → DerivesInside to to []
  statement : {from middle to : List Lexeme} {s : RawStmt} {rest : List RawStmt} →
      DerivesStatement from middle s → DerivesInside middle to rest → DerivesInside from to (s ∷ rest)
  exit : {from middle to : List Lexeme} {s : RawStmt} {rest : List RawStmt} →
      DerivesExit from middle s → DerivesInside middle to rest → DerivesInside from to (s ∷ rest)

-- the body of a region: "{" { statement | exit } "}"
pub data DerivesLoop : List Lexeme → List Lexeme → List RawStmt → Type 0 where
  loop : {opening closing : Lexeme} {from to : List Lexeme} {body : List RawStmt} →
      Is OpenBrace opening → DerivesInside from (closing ∷ to) body → Is CloseBrace closing → DerivesLoop (opening ∷ from) to body
