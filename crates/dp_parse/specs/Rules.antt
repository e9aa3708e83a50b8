-- The rules of the grammar: the parts of which each nonterminal may be made.
use Rattle.std.specs.Prelude.{◌≡◌, List, [], ◌∷◌, Some}
use Rattle.dp_base.specs.declared.UnOp.{UnOp}
use Rattle.dp_tokens.specs.declared.symbol.Symbol.{Symbol}
use Rattle.dp_tokens.specs.declared.symbol.Symbol.TheVariants.{Name, Mark, Int, Void, Main, Return, Print, While, For, Break, If, Else, Minus, Assign}
use Rattle.dp_tokens.specs.declared.symbol.Symbol.TheVariants.{OpenParen, CloseParen, OpenBracket, CloseBracket, OpenBrace, CloseBrace, Comma, Semicolon}
use Rattle.dp_parse.specs.declared.level.Level.{Level}
use Rattle.dp_parse.specs.declared.level.Level.TheVariants.{Or, Primary}
use Rattle.dp_parse.specs.declared.level.Join.{Join}
use Rattle.dp_parse.specs.Levels.{operands, joining, prefixing}

-- what the grammar has rules for
pub data Nonterminal : Type 0 where
  Expression : Level → Nonterminal
  Expressions : Nonterminal
  Arguments : Nonterminal
  Condition : Nonterminal
  Simple : Nonterminal
  First : Nonterminal
  Head : Nonterminal
  Statement : Nonterminal
  Choice : Nonterminal
  Block : Nonterminal
  Statements : Nonterminal
  Exit : Nonterminal
  Inside : Nonterminal
  Loop : Nonterminal
  Names : Nonterminal
  Params : Nonterminal
  Item : Nonterminal
  Items : Nonterminal
  Tops : Nonterminal
  Ending : Nonterminal
  Body : Nonterminal
  Program : Nonterminal

-- a part of a rule: a token, or what other rules give
pub data Part : Type 0 where
  Word : Symbol → Part
  Number : Part
  -- a number of at least 1
  Length : Part
  -- the number 0
  Zero : Part
  Of : Nonterminal → Part

-- the rules: the parts of which each nonterminal may be made, in order
pub data Rule : Nonterminal → List Part → Type 0 where
  operand : {l m : Level} → operands l ≡ Some m → Rule (Expression l) (Of (Expression m) ∷ [])
  chain : {l m : Level} {s : Symbol} {join : Join} → joining s ≡ Some (l, join) → operands l ≡ Some m →
      Rule (Expression l) (Of (Expression l) ∷ Word s ∷ Of (Expression m) ∷ [])
  prefix : {l : Level} {s : Symbol} {is : UnOp} → prefixing s ≡ Some (l, is) → Rule (Expression l) (Word s ∷ Of (Expression l) ∷ [])
  number : Rule (Expression Primary) (Number ∷ [])
  scalar : Rule (Expression Primary) (Word Name ∷ [])
  element : Rule (Expression Primary) (Word Name ∷ Word OpenBracket ∷ Of (Expression Or) ∷ Word CloseBracket ∷ [])
  parenthesized : Rule (Expression Primary) (Word OpenParen ∷ Of (Expression Or) ∷ Word CloseParen ∷ [])
  last_expression : Rule Expressions (Of (Expression Or) ∷ [])
  more_expressions : Rule Expressions (Of (Expression Or) ∷ Word Comma ∷ Of Expressions ∷ [])
  no_arguments : Rule Arguments []
  arguments : Rule Arguments (Of Expressions ∷ [])
  condition : Rule Condition (Word OpenParen ∷ Of (Expression Or) ∷ Word CloseParen ∷ [])
  scalar_assigned : Rule Simple (Word Name ∷ Word Assign ∷ Of (Expression Or) ∷ [])
  element_assigned : Rule Simple (Word Name ∷ Word OpenBracket ∷ Of (Expression Or) ∷ Word CloseBracket ∷ Word Assign ∷ Of (Expression Or) ∷ [])
  declared : Rule First (Word Int ∷ Word Name ∷ Word Assign ∷ Of (Expression Or) ∷ [])
  simple : Rule First (Of Simple ∷ [])
  head : Rule Head (Word OpenParen ∷ Of First ∷ Word Semicolon ∷ Of (Expression Or) ∷ Word Semicolon ∷ Of Simple ∷ Word CloseParen ∷ [])
  declare : Rule Statement (Word Int ∷ Word Name ∷ Word Assign ∷ Of (Expression Or) ∷ Word Semicolon ∷ [])
  assign : Rule Statement (Word Name ∷ Word Assign ∷ Of (Expression Or) ∷ Word Semicolon ∷ [])
  store : Rule Statement (Word Name ∷ Word OpenBracket ∷ Of (Expression Or) ∷ Word CloseBracket ∷ Word Assign ∷ Of (Expression Or) ∷ Word Semicolon ∷ [])
  call : Rule Statement (Word Name ∷ Word OpenParen ∷ Of Arguments ∷ Word CloseParen ∷ Word Semicolon ∷ [])
  print : Rule Statement (Word Print ∷ Of Condition ∷ Word Semicolon ∷ [])
  loop : Rule Statement (Word While ∷ Of Condition ∷ Of Block ∷ [])
  for_loop : Rule Statement (Word For ∷ Of Head ∷ Of Block ∷ [])
  choice : Rule Statement (Of Choice ∷ [])
  alone : Rule Choice (Word If ∷ Of Condition ∷ Of Block ∷ [])
  otherwise : Rule Choice (Word If ∷ Of Condition ∷ Of Block ∷ Word Else ∷ Of Block ∷ [])
  else_if : Rule Choice (Word If ∷ Of Condition ∷ Of Block ∷ Word Else ∷ Of Choice ∷ [])
  block : Rule Block (Word OpenBrace ∷ Of Statements ∷ Word CloseBrace ∷ [])
  no_statement : Rule Statements []
  more_statements : Rule Statements (Of Statement ∷ Of Statements ∷ [])
  bare : Rule Exit (Word If ∷ Of Condition ∷ Word Break ∷ Word Semicolon ∷ [])
  braced : Rule Exit (Word If ∷ Of Condition ∷ Word OpenBrace ∷ Word Break ∷ Word Semicolon ∷ Word CloseBrace ∷ [])
  nothing_inside : Rule Inside []
  statement_inside : Rule Inside (Of Statement ∷ Of Inside ∷ [])
  exit_inside : Rule Inside (Of Exit ∷ Of Inside ∷ [])
  body : Rule Loop (Word OpenBrace ∷ Of Inside ∷ Word CloseBrace ∷ [])
  last_name : Rule Names (Word Int ∷ Word Name ∷ [])
  more_names : Rule Names (Word Int ∷ Word Name ∷ Word Comma ∷ Of Names ∷ [])
  no_params : Rule Params []
  void : Rule Params (Word Void ∷ [])
  params : Rule Params (Of Names ∷ [])
  variable : Rule Item (Word Int ∷ Word Name ∷ Word Semicolon ∷ [])
  started : Rule Item (Word Int ∷ Word Name ∷ Word Assign ∷ Number ∷ Word Semicolon ∷ [])
  below_zero : Rule Item (Word Int ∷ Word Name ∷ Word Assign ∷ Word Minus ∷ Number ∷ Word Semicolon ∷ [])
  array : Rule Item (Word Int ∷ Word Name ∷ Word OpenBracket ∷ Length ∷ Word CloseBracket ∷ Word Semicolon ∷ [])
  function : Rule Item (Word Void ∷ Word Name ∷ Word OpenParen ∷ Of Params ∷ Word CloseParen ∷ Of Block ∷ [])
  no_item : Rule Items []
  more_items : Rule Items (Of Item ∷ Of Items ∷ [])
  no_top : Rule Tops []
  statement : Rule Tops (Of Statement ∷ Of Tops ∷ [])
  region : Rule Tops (Word Mark ∷ Word While ∷ Of Condition ∷ Of Loop ∷ Of Tops ∷ [])
  for_region : Rule Tops (Word Mark ∷ Word For ∷ Of Head ∷ Of Loop ∷ Of Tops ∷ [])
  no_return : Rule Ending []
  return : Rule Ending (Word Return ∷ Zero ∷ Word Semicolon ∷ [])
  main : Rule Body (Word Int ∷ Word Main ∷ Word OpenParen ∷ Word CloseParen ∷ Word OpenBrace ∷ Of Tops ∷ Of Ending ∷ Word CloseBrace ∷ [])
  main_void : Rule Body (Word Int ∷ Word Main ∷ Word OpenParen ∷ Word Void ∷ Word CloseParen ∷ Word OpenBrace ∷ Of Tops ∷ Of Ending ∷ Word CloseBrace ∷ [])
  program : Rule Program (Of Items ∷ Of Body ∷ [])
