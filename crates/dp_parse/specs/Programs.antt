-- Whole programs by the grammar, with one case for each rule.
use Rattle.std.specs.Prelude.{◌≤◌, ℕ, pos, neg_ℤ, true, List, [], ◌∷◌}
use Rattle.dp_lex.specs.Token.{Lexeme}
use Rattle.dp_tree.specs.declared.raw.Name.{Name as TreeName}
use Rattle.dp_tree.specs.declared.raw.RawExpr.{RawExpr}
use Rattle.dp_tree.specs.declared.raw.RawStmt.{RawStmt}
use Rattle.dp_tree.specs.declared.raw.RawStmt.TheVariants as stmt
use Rattle.dp_tree.specs.declared.raw.RawItem.{RawItem}
use Rattle.dp_tree.specs.declared.raw.RawItem.TheVariants as item
use Rattle.dp_tree.specs.declared.raw.RawProgram.{RawProgram}
use Rattle.dp_tokens.specs.declared.symbol.Symbol.TheVariants.{Name, Mark, Int, Void, Main, Return, While, For, Minus, Assign, OpenParen, CloseParen}
use Rattle.dp_tokens.specs.declared.symbol.Symbol.TheVariants.{OpenBracket, CloseBracket, OpenBrace, CloseBrace, Comma, Semicolon}
use Rattle.dp_tokens.specs.Symbols.{Is}
use Rattle.dp_tokens.specs.Leaves.{name_of, IsNumber}
use Rattle.dp_parse.specs.Heads.{DerivesHead}
use Rattle.dp_parse.specs.Statements.{DerivesCondition, DerivesStatement, DerivesBlock}
use Rattle.dp_parse.specs.Regions.{DerivesLoop}

-- "int" name { "," "int" name }
pub data DerivesNames : List Lexeme → List Lexeme → List TreeName → Type 0 where
  last : {int name : Lexeme} {to : List Lexeme} → Is Int int → Is Name name → DerivesNames (int ∷ name ∷ to) to (name_of name ∷ [])
  more : {int name comma : Lexeme} {from to : List Lexeme} {names : List TreeName} →
      Is Int int → Is Name name → Is Comma comma → DerivesNames from to names → DerivesNames (int ∷ name ∷ comma ∷ from) to (name_of name ∷ names)

-- what stands between the parentheses of a function's head: [ "void" | .. ]
pub data DerivesParams : List Lexeme → List Lexeme → List TreeName → Type 0 where
  none : {to : List Lexeme} → DerivesParams to to []
  void : {word : Lexeme} {to : List Lexeme} → Is Void word → DerivesParams (word ∷ to) to []
  some : {from to : List Lexeme} {names : List TreeName} → DerivesNames from to names → DerivesParams from to names

-- a declaration at file scope
pub data DerivesItem : List Lexeme → List Lexeme → RawItem → Type 0 where
  -- "int" name ";"
  scalar : {int name end : Lexeme} {to : List Lexeme} → Is Int int → Is Name name → Is Semicolon end →
      DerivesItem (int ∷ name ∷ end ∷ to) to (item.Scalar (name_of name) (pos 0))
  -- "int" name "=" number ";"
  started : {int name equals start end : Lexeme} {n : ℕ} {to : List Lexeme} →
      Is Int int → Is Name name → Is Assign equals → IsNumber start n → Is Semicolon end →
      DerivesItem (int ∷ name ∷ equals ∷ start ∷ end ∷ to) to (item.Scalar (name_of name) (pos n))
  -- "int" name "=" "-" number ";"
  below_zero : {int name equals minus start end : Lexeme} {n : ℕ} {to : List Lexeme} →
      Is Int int → Is Name name → Is Assign equals → Is Minus minus → IsNumber start n → Is Semicolon end →
      DerivesItem (int ∷ name ∷ equals ∷ minus ∷ start ∷ end ∷ to) to (item.Scalar (name_of name) (neg_ℤ (pos n)))
  -- "int" name "[" number "]" ";", with a length of at least 1
  array : {int name opening length closing end : Lexeme} {n : ℕ} {to : List Lexeme} →
      Is Int int → Is Name name → Is OpenBracket opening → IsNumber length n → 1 ≤ n → Is CloseBracket closing → Is Semicolon end →
      DerivesItem (int ∷ name ∷ opening ∷ length ∷ closing ∷ end ∷ to) to (item.Array (name_of name) (pos n))
  -- "void" name "(" [ params ] ")" block
  function : {void name opening closing : Lexeme} {from middle to : List Lexeme} {params : List TreeName} {body : List RawStmt} →
      Is Void void → Is Name name → Is OpenParen opening → DerivesParams from (closing ∷ middle) params → Is CloseParen closing → DerivesBlock middle to body →
      DerivesItem (void ∷ name ∷ opening ∷ from) to (item.Function (name_of name) params body)

-- { top }, where top = statement | mark "while" "(" expr ")" loop | mark "for" "(" first ";" expr ";" simple ")" loop
pub data DerivesTops : List Lexeme → List Lexeme → List RawStmt → Type 0 where
  none : {to : List Lexeme} → DerivesTops to to []
  statement : {from middle to : List Lexeme} {s : RawStmt} {rest : List RawStmt} →
      DerivesStatement from middle s → DerivesTops middle to rest → DerivesTops from to (s ∷ rest)
  region : {mark word : Lexeme} {from inside middle to : List Lexeme} {e : RawExpr} {body rest : List RawStmt} →
      Is Mark mark → Is While word → DerivesCondition from inside e → DerivesLoop inside middle body → DerivesTops middle to rest →
      DerivesTops (mark ∷ word ∷ from) to (stmt.While word.line true e body ∷ rest)
  for_region : {mark word : Lexeme} {from inside middle to : List Lexeme} {first step : RawStmt} {e : RawExpr} {body rest : List RawStmt} →
      Is Mark mark → Is For word → DerivesHead from inside first e step → DerivesLoop inside middle body → DerivesTops middle to rest →
      DerivesTops (mark ∷ word ∷ from) to (stmt.For word.line true (first ∷ []) e (step ∷ []) body ∷ rest)

-- [ "return" number ";" ], with the number 0
pub data DerivesReturn : List Lexeme → List Lexeme → Type 0 where
  none : {to : List Lexeme} → DerivesReturn to to
  zero : {word value end : Lexeme} {to : List Lexeme} → Is Return word → IsNumber value 0 → Is Semicolon end → DerivesReturn (word ∷ value ∷ end ∷ to) to

-- "int" "main" "(" [ "void" ] ")" "{" { top } [ "return" number ";" ] "}"
pub data DerivesMain : List Lexeme → List Lexeme → List RawStmt → Type 0 where
  main : {int name opening paren brace closing : Lexeme} {from after to : List Lexeme} {body : List RawStmt} →
      Is Int int → Is Main name → Is OpenParen opening → Is CloseParen paren → Is OpenBrace brace →
      DerivesTops from after body → DerivesReturn after (closing ∷ to) → Is CloseBrace closing →
      DerivesMain (int ∷ name ∷ opening ∷ paren ∷ brace ∷ from) to body
  main_void : {int name opening void paren brace closing : Lexeme} {from after to : List Lexeme} {body : List RawStmt} →
      Is Int int → Is Main name → Is OpenParen opening → Is Void void → Is CloseParen paren → Is OpenBrace brace →
      DerivesTops from after body → DerivesReturn after (closing ∷ to) → Is CloseBrace closing →
      DerivesMain (int ∷ name ∷ opening ∷ void ∷ paren ∷ brace ∷ from) to body

pub data DerivesItems : List Lexeme → List Lexeme → List RawItem → Type 0 where
  none : {to : List Lexeme} → DerivesItems to to []
  more : {from middle to : List Lexeme} {i : RawItem} {rest : List RawItem} →
      DerivesItem from middle i → DerivesItems middle to rest → DerivesItems from to (i ∷ rest)

-- the tokens derive the program: { item } main
pub record Derives (tokens : List Lexeme) (p : RawProgram) : Type 0 where
  pub middle : List Lexeme
  pub items : DerivesItems tokens middle p.items
  pub main : DerivesMain middle [] p.main
