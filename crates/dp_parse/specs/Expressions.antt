-- Expressions by the grammar, with one case for each form of rule.
use Rattle.std.specs.Prelude.{◌≡◌, ℕ, pos, List, [], ◌∷◌, Some}
use Rattle.dp_base.specs.declared.UnOp.{UnOp}
use Rattle.dp_lex.specs.Token.{Lexeme}
use Rattle.dp_tree.specs.declared.raw.RawExpr.{RawExpr}
use Rattle.dp_tree.specs.declared.raw.RawExpr.TheVariants as tree
use Rattle.dp_tokens.specs.declared.symbol.Symbol.TheVariants.{Name, OpenParen, CloseParen, OpenBracket, CloseBracket, Comma}
use Rattle.dp_parse.specs.declared.level.Level.{Level}
use Rattle.dp_parse.specs.declared.level.Level.TheVariants.{Or, Primary}
use Rattle.dp_parse.specs.declared.level.Join.{Join}
use Rattle.dp_tokens.specs.Symbols.{symbol, Is}
use Rattle.dp_parse.specs.Levels.{operands, joining, prefixing, joined_trees}
use Rattle.dp_tokens.specs.Leaves.{name_of, IsNumber}

-- The tokens of `from` up to `to` derive the expression at the level:
--   or = and { "||" and }, and = equality { "&&" equality }, .., product = unary { ( "*" | "/" | "%" ) unary }
--   unary = ( "-" | "!" ) unary | primary
--   primary = number | name | name "[" or "]" | "(" or ")"
pub data DerivesExpr : Level → List Lexeme → List Lexeme → RawExpr → Type 0 where
  -- one operand alone
  operand : {l m : Level} {from to : List Lexeme} {e : RawExpr} → operands l ≡ Some m → DerivesExpr m from to e → DerivesExpr l from to e
  -- a chain goes on by one operand: operators of one level group from the left
  chain : {l m : Level} {op : Lexeme} {join : Join} {from middle to : List Lexeme} {a b : RawExpr} →
      joining (symbol op) ≡ Some (l, join) → operands l ≡ Some m →
      DerivesExpr l from (op ∷ middle) a → DerivesExpr m middle to b → DerivesExpr l from to (joined_trees join a b)
  -- a prefix operator
  prefix : {l : Level} {op : Lexeme} {is : UnOp} {from to : List Lexeme} {e : RawExpr} →
      prefixing (symbol op) ≡ Some (l, is) → DerivesExpr l from to e → DerivesExpr l (op ∷ from) to (tree.Unary is e)
  number : {t : Lexeme} {n : ℕ} {to : List Lexeme} → IsNumber t n → DerivesExpr Primary (t ∷ to) to (tree.Number (pos n))
  scalar : {name : Lexeme} {to : List Lexeme} → Is Name name → DerivesExpr Primary (name ∷ to) to (tree.Scalar (name_of name))
  element : {name opening closing : Lexeme} {from to : List Lexeme} {e : RawExpr} →
      Is Name name → Is OpenBracket opening → DerivesExpr Or from (closing ∷ to) e → Is CloseBracket closing →
      DerivesExpr Primary (name ∷ opening ∷ from) to (tree.Element (name_of name) e)
  parenthesized : {opening closing : Lexeme} {from to : List Lexeme} {e : RawExpr} →
      Is OpenParen opening → DerivesExpr Or from (closing ∷ to) e → Is CloseParen closing → DerivesExpr Primary (opening ∷ from) to e

-- the tokens derive one expression or more, with commas between
pub data DerivesList : List Lexeme → List Lexeme → List RawExpr → Type 0 where
  last : {from to : List Lexeme} {e : RawExpr} → DerivesExpr Or from to e → DerivesList from to (e ∷ [])
  more : {comma : Lexeme} {from middle to : List Lexeme} {e : RawExpr} {es : List RawExpr} →
      DerivesExpr Or from (comma ∷ middle) e → Is Comma comma → DerivesList middle to es → DerivesList from to (e ∷ es)
