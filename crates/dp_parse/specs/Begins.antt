-- The tokens with which a part of a program begins: a relation by cases over the rules of the grammar.
use Rattle.std.specs.Prelude.{ℕ, ◌≤◌, List, ◌∷◌}
use Rattle.dp_lex.specs.Token.{Lexeme}
use Rattle.dp_tree.specs.declared.raw.Name.{Name as TreeName}
use Rattle.dp_tree.specs.declared.raw.RawExpr.{RawExpr}
use Rattle.dp_tree.specs.declared.raw.RawStmt.{RawStmt}
use Rattle.dp_tree.specs.declared.raw.RawItem.{RawItem}
use Rattle.dp_tokens.specs.Symbols.{Is}
use Rattle.dp_tokens.specs.Leaves.{IsNumber}
use Rattle.dp_parse.specs.Expressions.{DerivesExpr, DerivesList}
use Rattle.dp_parse.specs.Heads.{DerivesSimple, DerivesFirst, DerivesHead}
use Rattle.dp_parse.specs.Statements.{DerivesArguments, DerivesCondition, DerivesStatement, DerivesChoice, DerivesBlock, DerivesStatements}
use Rattle.dp_parse.specs.Regions.{DerivesExit, DerivesInside, DerivesLoop}
use Rattle.dp_parse.specs.Programs.{DerivesNames, DerivesParams, DerivesItem, DerivesItems, DerivesTops, DerivesReturn, DerivesMain}
use Rattle.dp_parse.specs.Rules.{Nonterminal, Expression, Expressions, Arguments, Condition, Simple, First, Head, Statement, Choice, Block, Statements, Exit}
use Rattle.dp_parse.specs.Rules.{Inside, Loop, Names, Params, Item, Items, Tops, Ending, Body, Program, Part, Word, Number, Length, Zero, Of, Rule}

-- a rule allows the token at the part's place
abbrev pub Allows : Part → Lexeme → Type 0
Allows (Word s) t = Is s t
Allows Number t = (n : ℕ) × IsNumber t n
Allows Length t = (n : ℕ) × IsNumber t n × (1 ≤ n)
Allows Zero t = IsNumber t 0
Allows (Of n) t = ⊥

-- the tokens of the first list up to the second derive the nonterminal
abbrev pub Derived : Nonterminal → List Lexeme → List Lexeme → Type 0
Derived (Expression l) from to = (e : RawExpr) × DerivesExpr l from to e
Derived Expressions from to = (es : List RawExpr) × DerivesList from to es
Derived Arguments from to = (es : List RawExpr) × DerivesArguments from to es
Derived Condition from to = (e : RawExpr) × DerivesCondition from to e
Derived Simple from to = (s : RawStmt) × DerivesSimple from to s
Derived First from to = (s : RawStmt) × DerivesFirst from to s
Derived Head from to = (first : RawStmt) × (e : RawExpr) × (step : RawStmt) × DerivesHead from to first e step
Derived Statement from to = (s : RawStmt) × DerivesStatement from to s
Derived Choice from to = (s : RawStmt) × DerivesChoice from to s
Derived Block from to = (body : List RawStmt) × DerivesBlock from to body
Derived Statements from to = (body : List RawStmt) × DerivesStatements from to body
Derived Exit from to = (s : RawStmt) × DerivesExit from to s
Derived Inside from to = (body : List RawStmt) × DerivesInside from to body
Derived Loop from to = (body : List RawStmt) × DerivesLoop from to body
Derived Names from to = (names : List TreeName) × DerivesNames from to names
Derived Params from to = (names : List TreeName) × DerivesParams from to names
Derived Item from to = (i : RawItem) × DerivesItem from to i
Derived Items from to = (items : List RawItem) × DerivesItems from to items
Derived Tops from to = (body : List RawStmt) × DerivesTops from to body
Derived Ending from to = DerivesReturn from to
Derived Body from to = (body : List RawStmt) × DerivesMain from to body
Derived Program from to = (middle : List Lexeme) × (items : List RawItem) × (body : List RawStmt) × DerivesItems from middle items × DerivesMain middle to body

mutual
  -- the tokens of the first list up to the second begin the nonterminal
  pub data Begins : Nonterminal → List Lexeme → List Lexeme → Type 0 where
    -- none begin everything
    nothing : {n : Nonterminal} {to : List Lexeme} → Begins n to to
    by : {n : Nonterminal} {parts : List Part} {from to : List Lexeme} → Rule n parts → BeginsParts parts from to → Begins n from to

  -- the tokens begin one of the parts, behind those from which the parts before it are derived
  pub data BeginsParts : List Part → List Lexeme → List Lexeme → Type 0 where
    none : {parts : List Part} {to : List Lexeme} → BeginsParts parts to to
    within : {n : Nonterminal} {parts : List Part} {from to : List Lexeme} → Begins n from to → BeginsParts (Of n ∷ parts) from to
    token : {p : Part} {parts : List Part} {t : Lexeme} {from to : List Lexeme} → Allows p t → BeginsParts parts from to → BeginsParts (p ∷ parts) (t ∷ from) to
    past : {n : Nonterminal} {parts : List Part} {from middle to : List Lexeme} → Derived n from middle → BeginsParts parts middle to →
        BeginsParts (Of n ∷ parts) from to
