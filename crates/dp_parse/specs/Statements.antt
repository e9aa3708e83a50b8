-- Statements by the grammar, with one case for each rule.
use Rattle.std.specs.Prelude.{false, List, [], ◌∷◌}
use Rattle.dp_lex.specs.Token.{Lexeme}
use Rattle.dp_tree.specs.declared.raw.RawExpr.{RawExpr}
use Rattle.dp_tree.specs.declared.raw.RawStmt.{RawStmt}
use Rattle.dp_tree.specs.declared.raw.RawStmt.TheVariants as tree
use Rattle.dp_tokens.specs.declared.symbol.Symbol.TheVariants.{Name, Int, Print, While, For, If, Else, Assign, OpenParen, CloseParen, OpenBracket, CloseBracket}
use Rattle.dp_tokens.specs.declared.symbol.Symbol.TheVariants.{OpenBrace, CloseBrace, Semicolon}
use Rattle.dp_parse.specs.declared.level.Level.TheVariants.{Or}
use Rattle.dp_tokens.specs.Symbols.{Is}
use Rattle.dp_tokens.specs.Leaves.{name_of}
use Rattle.dp_parse.specs.Expressions.{DerivesExpr, DerivesList}
use Rattle.dp_parse.specs.Heads.{DerivesHead}

-- the tokens derive the arguments between a call's parentheses
pub data DerivesArguments : List Lexeme → List Lexeme → List RawExpr → Type 0 where
  none : {to : List Lexeme} → DerivesArguments to to []
  some : {from to : List Lexeme} {es : List RawExpr} → DerivesList from to es → DerivesArguments from to es

-- "(" expr ")"
pub data DerivesCondition : List Lexeme → List Lexeme → RawExpr → Type 0 where
  condition : {opening closing : Lexeme} {from to : List Lexeme} {e : RawExpr} →
      Is OpenParen opening → DerivesExpr Or from (closing ∷ to) e → Is CloseParen closing → DerivesCondition (opening ∷ from) to e

mutual
  pub data DerivesStatement : List Lexeme → List Lexeme → RawStmt → Type 0 where
    -- "int" name "=" expr ";"
    declare : {int name equals end : Lexeme} {from to : List Lexeme} {e : RawExpr} →
        Is Int int → Is Name name → Is Assign equals → DerivesExpr Or from (end ∷ to) e → Is Semicolon end →
        DerivesStatement (int ∷ name ∷ equals ∷ from) to (tree.Declare int.line (name_of name) e)
    -- name "=" expr ";"
    assign : {name equals end : Lexeme} {from to : List Lexeme} {e : RawExpr} →
        Is Name name → Is Assign equals → DerivesExpr Or from (end ∷ to) e → Is Semicolon end →
        DerivesStatement (name ∷ equals ∷ from) to (tree.Assign (name_of name) e)
    -- name "[" expr "]" "=" expr ";"
    store : {name opening closing equals end : Lexeme} {from middle to : List Lexeme} {index e : RawExpr} →
        Is Name name → Is OpenBracket opening → DerivesExpr Or from (closing ∷ equals ∷ middle) index → Is CloseBracket closing →
        Is Assign equals → DerivesExpr Or middle (end ∷ to) e → Is Semicolon end →
        DerivesStatement (name ∷ opening ∷ from) to (tree.Store (name_of name) index e)
    -- name "(" [ expr { "," expr } ] ")" ";"
    call : {name opening closing end : Lexeme} {from to : List Lexeme} {args : List RawExpr} →
        Is Name name → Is OpenParen opening → DerivesArguments from (closing ∷ end ∷ to) args → Is CloseParen closing → Is Semicolon end →
        DerivesStatement (name ∷ opening ∷ from) to (tree.Call (name_of name) args)
    -- "print" "(" expr ")" ";"
    print : {word end : Lexeme} {from to : List Lexeme} {e : RawExpr} →
        Is Print word → DerivesCondition from (end ∷ to) e → Is Semicolon end → DerivesStatement (word ∷ from) to (tree.Print word.line e)
    -- "while" "(" expr ")" block
    loop : {word : Lexeme} {from middle to : List Lexeme} {e : RawExpr} {body : List RawStmt} →
        Is While word → DerivesCondition from middle e → DerivesBlock middle to body →
        DerivesStatement (word ∷ from) to (tree.While word.line false e body)
    -- "for" "(" first ";" expr ";" simple ")" block
    for_loop : {word : Lexeme} {from middle to : List Lexeme} {first step : RawStmt} {e : RawExpr} {body : List RawStmt} →
        Is For word → DerivesHead from middle first e step → DerivesBlock middle to body →
        DerivesStatement (word ∷ from) to (tree.For word.line false (first ∷ []) e (step ∷ []) body)
    choice : {from to : List Lexeme} {s : RawStmt} → DerivesChoice from to s → DerivesStatement from to s

  -- "if" "(" expr ")" block [ "else" ( block | .. ) ]
  pub data DerivesChoice : List Lexeme → List Lexeme → RawStmt → Type 0 where
    alone : {word : Lexeme} {from middle to : List Lexeme} {e : RawExpr} {body : List RawStmt} →
        Is If word → DerivesCondition from middle e → DerivesBlock middle to body → DerivesChoice (word ∷ from) to (tree.If word.line e body [])
    otherwise : {word other : Lexeme} {from middle after to : List Lexeme} {e : RawExpr} {body else_part : List RawStmt} →
        Is If word → DerivesCondition from middle e → DerivesBlock middle (other ∷ after) body → Is Else other → DerivesBlock after to else_part →
        DerivesChoice (word ∷ from) to (tree.If word.line e body else_part)
    -- the else part is that one statement
    else_if : {word other : Lexeme} {from middle after to : List Lexeme} {e : RawExpr} {body : List RawStmt} {s : RawStmt} →
        Is If word → DerivesCondition from middle e → DerivesBlock middle (other ∷ after) body → Is Else other → DerivesChoice after to s →
        DerivesChoice (word ∷ from) to (tree.If word.line e body (s ∷ []))

  -- "{" { statement } "}"
  pub data DerivesBlock : List Lexeme → List Lexeme → List RawStmt → Type 0 where
    block : {opening closing : Lexeme} {from to : List Lexeme} {body : List RawStmt} →
        Is OpenBrace opening → DerivesStatements from (closing ∷ to) body → Is CloseBrace closing → DerivesBlock (opening ∷ from) to body

  pub data DerivesStatements : List Lexeme → List Lexeme → List RawStmt → Type 0 where
    none : {to : List Lexeme} → DerivesStatements to to []
    more : {from middle to : List Lexeme} {s : RawStmt} {body : List RawStmt} →
        DerivesStatement from middle s → DerivesStatements middle to body → DerivesStatements from to (s ∷ body)
