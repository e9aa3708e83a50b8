-- What stands in the parentheses of a `for`, with one case for each rule.
use Rattle.std.specs.Prelude.{List, ◌∷◌}
use Rattle.dp_lex.specs.Token.{Lexeme}
use Rattle.dp_tree.specs.declared.raw.RawExpr.{RawExpr}
use Rattle.dp_tree.specs.declared.raw.RawStmt.{RawStmt}
use Rattle.dp_tree.specs.declared.raw.RawStmt.TheVariants as tree
use Rattle.dp_tokens.specs.declared.symbol.Symbol.TheVariants.{Name, Int, Assign, OpenParen, CloseParen, OpenBracket, CloseBracket, Semicolon}
use Rattle.dp_parse.specs.declared.level.Level.TheVariants.{Or}
use Rattle.dp_tokens.specs.Symbols.{Is}
use Rattle.dp_tokens.specs.Leaves.{name_of}
use Rattle.dp_parse.specs.Expressions.{DerivesExpr}

-- an assignment without a semicolon
pub data DerivesSimple : List Lexeme → List Lexeme → RawStmt → Type 0 where
  -- name "=" expr
  scalar : {name equals : Lexeme} {from to : List Lexeme} {e : RawExpr} →
      Is Name name → Is Assign equals → DerivesExpr Or from to e → DerivesSimple (name ∷ equals ∷ from) to (tree.Assign (name_of name) e)
  -- name "[" expr "]" "=" expr
  element : {name opening closing equals : Lexeme} {from middle to : List Lexeme} {index e : RawExpr} →
      Is Name name → Is OpenBracket opening → DerivesExpr Or from (closing ∷ equals ∷ middle) index → Is CloseBracket closing →
      Is Assign equals → DerivesExpr Or middle to e → DerivesSimple (name ∷ opening ∷ from) to (tree.Store (name_of name) index e)

-- the initialiser of a `for`
pub data DerivesFirst : List Lexeme → List Lexeme → RawStmt → Type 0 where
  -- "int" name "=" expr
  declared : {int name equals : Lexeme} {from to : List Lexeme} {e : RawExpr} →
      Is Int int → Is Name name → Is Assign equals → DerivesExpr Or from to e →
      DerivesFirst (int ∷ name ∷ equals ∷ from) to (tree.Declare int.line (name_of name) e)
  simple : {from to : List Lexeme} {s : RawStmt} → DerivesSimple from to s → DerivesFirst from to s

-- "(" first ";" expr ";" simple ")"
pub data DerivesHead : List Lexeme → List Lexeme → RawStmt → RawExpr → RawStmt → Type 0 where
  head : {opening end behind closing : Lexeme} {from middle after to : List Lexeme} {first step : RawStmt} {e : RawExpr} →
      Is OpenParen opening → DerivesFirst from (end ∷ middle) first → Is Semicolon end → DerivesExpr Or middle (behind ∷ after) e → Is Semicolon behind →
      DerivesSimple after (closing ∷ to) step → Is CloseParen closing → DerivesHead (opening ∷ from) to first e step
