-- What the grammar derives as a statement, the descent reads.
use Rattle.std.proofs.Common.{◌≡◌, refl, ap, ◌∙◌, sym, ℕ, suc, ◌-◌, ◌≤◌, Bool, false, List, [], ◌∷◌, ◌++◌, length, arith, Ok}
use Rattle.dp_lex.specs.Token.{Lexeme}
use Rattle.dp_tree.specs.declared.raw.RawExpr.{RawExpr}
use Rattle.dp_tree.specs.declared.raw.RawStmt.{RawStmt}
use Rattle.dp_tree.specs.declared.raw.RawStmt.TheVariants as tree
use Rattle.dp_tokens.specs.declared.symbol.Symbol.TheVariants.{Name, Int, Print, While, For, If, Else, Assign, OpenParen, OpenBracket, OpenBrace, CloseBrace}
use Rattle.dp_tokens.specs.declared.symbol.Symbol.TheVariants.{Semicolon}
use Rattle.dp_tokens.specs.Symbols.{symbol_at, Is}
use Rattle.dp_tokens.specs.Leaves.{name_of}
use Rattle.dp_parse.specs.declared.level.Level.TheVariants.{Or}
use Rattle.dp_parse.specs.Expressions.{DerivesExpr}
use Rattle.dp_parse.specs.Heads.{DerivesHead}
use Rattle.dp_parse.specs.Statements.{none, DerivesStatement, declare, assign, store, call, print, loop, for_loop, choice, DerivesChoice, alone, otherwise}
use Rattle.dp_parse.specs.Statements.{else_if, DerivesBlock, block, DerivesStatements}
use Rattle.dp_parse.specs.Statements as statements
use Rattle.dp_tokens.specs.Steps.{Parser, pure, sees_symbol, many}
use Rattle.dp_parse.specs.steps.Heads as heads
use Rattle.dp_parse.specs.steps.Statements as read
use Rattle.dp_parse.proofs.StepLemmas.{is_same, expects, eats, stays, sees_is, sees_other}
use Rattle.dp_parse.proofs.LeafLemmas.{reads_name}
use Rattle.dp_parse.proofs.Lists.{many_more, many_closed}
use Rattle.dp_parse.specs.Rules as rule
use Rattle.dp_parse.proofs.Spans.{shorter}
use Rattle.dp_parse.proofs.StatementForms.{behind_name}
use Rattle.dp_parse.proofs.StatementSteps.{statement_opens}
use Rattle.dp_parse.proofs.HeadReads.{ends_at, reads_ended, reads_declare, reads_scalar, reads_element, reads_head}
use Rattle.dp_parse.proofs.StatementReads.{goes, reads_call, reads_print, reads_repeated, reads_if, choice_first, block_begins, begins_not, statements_not}
use Rattle.dp_parse.proofs.Going.{goes_whole}

-- ---- declarations and what begins with a name

reads_declaration : (int name equals end : Lexeme) (from to : List Lexeme) (e : RawExpr) → Is Int int → Is Name name → Is Assign equals →
    DerivesExpr Or from (end ∷ to) e → Is Semicolon end →
    read.declaration (int ∷ name ∷ equals ∷ from) ≡ Ok (tree.Declare int.line (name_of name) e, to)
unfolding read.declaration symbol_at
reads_declaration int name equals end from to e i n q d h =
    reads_ended heads.declare (int ∷ name ∷ equals ∷ from) end to (tree.Declare int.line (name_of name) e)
    (reads_declare int name equals from (end ∷ to) e i n q d (ends_at Semicolon (end ∷ to) h refl (λ e. cc e))) h

reads_named : (name end : Lexeme) (from to : List Lexeme) (s : RawStmt) → Is Name name → (symbol_at from ≡ OpenParen → ⊥) →
    heads.assign (name_of name) from ≡ Ok (s, end ∷ to) → Is Semicolon end → read.named (name ∷ from) ≡ Ok (s, to)
unfolding read.named
reads_named name end from to s n other h e =
    goes behind_name (reads_name name from n) ∙ ap (λ (b : Bool). read.named_by (name_of name) b from) (sees_other OpenParen from other)
    ∙ reads_ended (heads.assign (name_of name)) from end to s h e

calls_named : (name opening : Lexeme) (from to : List Lexeme) (s : RawStmt) → Is Name name → Is OpenParen opening →
    read.call (name_of name) (opening ∷ from) ≡ Ok (s, to) → read.named (name ∷ opening ∷ from) ≡ Ok (s, to)
unfolding read.named
calls_named name opening from to s n o h =
    goes behind_name (reads_name name (opening ∷ from) n) ∙ ap (λ (b : Bool). read.named_by (name_of name) b (opening ∷ from))
    (sees_is OpenParen opening from o) ∙ h

reads_counted : (statement : Parser RawStmt) (word : Lexeme) (from middle to : List Lexeme) (first step : RawStmt) (e : RawExpr) (body : List RawStmt) →
    Is For word → DerivesHead from middle first e step →
    read.block statement middle ≡ Ok (body, to) → read.counted statement (word ∷ from) ≡ Ok (tree.For word.line false (first ∷ []) e (step ∷ []) body, to)
unfolding read.counted
reads_counted statement word from middle to first step e body w d h =
    rw (expects For word from w) (rw (reads_head d) (rw h))

-- ---- blocks

module _ (statement : Parser RawStmt) where
  reads_nothing : (to : List Lexeme) → (symbol_at to ≡ Else → ⊥) → read.otherwise statement to ≡ Ok ([], to)
  unfolding read.otherwise
  reads_nothing to other = stays Else (read.otherwise_by statement) to other

  reads_else_block : (other : Lexeme) (rest to : List Lexeme) (part : List RawStmt) → Is Else other → symbol_at rest ≡ OpenBrace →
      read.block statement rest ≡ Ok (part, to) →
      read.otherwise statement (other ∷ rest) ≡ Ok (part, to)
  unfolding read.otherwise
  reads_else_block other rest to part o at h =
      eats Else (read.otherwise_by statement) other rest o
      ∙ ap (λ (b : Bool). read.else_by statement b rest) (sees_other If rest (λ k. let clash : OpenBrace ≡ If = sym at ∙ k in cc clash)) ∙ h

  reads_else_if : (other : Lexeme) (rest to : List Lexeme) (s : RawStmt) → Is Else other → symbol_at rest ≡ If → statement rest ≡ Ok (s, to) →
      read.otherwise statement (other ∷ rest) ≡ Ok (s ∷ [], to)
  unfolding read.otherwise sees_symbol
  reads_else_if other rest to s o at h =
      eats Else (read.otherwise_by statement) other rest o
      ∙ ap (λ (b : Bool). read.else_by statement b rest) (is_same (symbol_at rest) If at) ∙ goes (λ s. pure (s ∷ [])) h

  in_braces : (opening closing : Lexeme) (from to : List Lexeme) (body : List RawStmt) → Is OpenBrace opening →
      many (sees_symbol CloseBrace) statement (length from) [] from ≡ Ok (body, closing ∷ to) → Is CloseBrace closing →
      read.block statement (opening ∷ from) ≡ Ok (body, to)
  unfolding read.block
  in_braces opening closing from to body o h c =
      rw (expects OpenBrace opening from o) (rw h (rw (expects CloseBrace closing to c)))

mutual
  unfolding symbol_at

  pub reads_statement : {from to : List Lexeme} {s : RawStmt} → DerivesStatement from to s → (n : ℕ) → length from ≤ n → (symbol_at to ≡ Else → ⊥) →
      read.statement n from ≡ Ok (s, to)
  reads_statement (declare {int} {name} {equals} {end} {from} {to} {e} i n q d h) depth fits other =
      statement_opens depth (int ∷ name ∷ equals ∷ from) Int (omega arith) i ∙ reads_declaration int name equals end from to e i n q d h
  reads_statement (assign {name} {equals} {end} {from} {to} {e} n q d h) depth fits other =
      statement_opens depth (name ∷ equals ∷ from) Name (omega arith) n
      ∙ reads_named name end (equals ∷ from) to (tree.Assign (name_of name) e) n (λ k. let clash : Assign ≡ OpenParen = sym q ∙ k in cc clash)
      (reads_scalar name equals from (end ∷ to) e q d (ends_at Semicolon (end ∷ to) h refl (λ e. cc e))) h
  reads_statement (store {name} {opening} {closing} {equals} {end} {from} {middle} {to} {index} {e} n o d c q f h) depth fits other =
      statement_opens depth (name ∷ opening ∷ from) Name (omega arith) n
      ∙ reads_named name end (opening ∷ from) to (tree.Store (name_of name) index e) n (λ k. let clash : OpenBracket ≡ OpenParen = sym o ∙ k in cc clash)
      (reads_element name opening closing equals from middle (end ∷ to) index e o d c q f (ends_at Semicolon (end ∷ to) h refl (λ e. cc e))) h
  reads_statement (call {name} {opening} {closing} {end} {from} {to} {args} n o d c h) depth fits other =
      statement_opens depth (name ∷ opening ∷ from) Name (omega arith) n
      ∙ calls_named name opening from to (tree.Call (name_of name) args) n o (reads_call name opening closing end from to args o d c h)
  reads_statement (print {word} {end} {from} {to} {e} w d h) depth fits other =
      statement_opens depth (word ∷ from) Print (omega arith) w ∙ reads_print word end from to e w d h
  reads_statement (loop {word} {from} {middle} {to} {e} {body} w d b) depth fits other =
      let less = shorter rule.Condition _ _ refl (_, d) in
      statement_opens depth (word ∷ from) While (omega arith) w
      ∙ reads_repeated (read.statement (depth - 1)) word from middle to e body w d (reads_block b (depth - 1) (omega arith))
  reads_statement (for_loop {word} {from} {middle} {to} {first} {step} {e} {body} w d b) depth fits other =
      let less = shorter rule.Head _ _ refl (_, _, _, d) in
      statement_opens depth (word ∷ from) For (omega arith) w
      ∙ reads_counted (read.statement (depth - 1)) word from middle to first step e body w d (reads_block b (depth - 1) (omega arith))
  reads_statement (choice {from} d) depth fits other =
      let least = shorter rule.Choice _ _ refl (_, d) in
      statement_opens depth from If (omega arith) (choice_first (goes_whole rule.Choice refl (_, d))) ∙ reads_choice d (depth - 1) (omega arith) other

  pub reads_choice : {from to : List Lexeme} {s : RawStmt} → DerivesChoice from to s → (n : ℕ) → length from ≤ suc n → (symbol_at to ≡ Else → ⊥) →
      read.choice (read.statement n) from ≡ Ok (s, to)
  reads_choice (alone {word} {from} {middle} {to} {e} {body} w d b) depth fits other =
      let less = shorter rule.Condition _ _ refl (_, d) in
      reads_if (read.statement depth) word from middle to to e body [] w d (reads_block b depth (omega arith)) (reads_nothing (read.statement depth) to other)
  reads_choice (otherwise {word} {other} {from} {middle} {after} {to} {e} {body} {else_part} w d b o f) depth fits free =
      let less = shorter rule.Condition _ _ refl (_, d) in let block_less = shorter rule.Block _ _ refl (_, b) in
      reads_if (read.statement depth) word from middle (other ∷ after) to e body else_part w d (reads_block b depth (omega arith))
      (reads_else_block (read.statement depth) other after to else_part o (block_begins f) (reads_block f depth (omega arith)))
  reads_choice (else_if {word} {other} {from} {middle} {after} {to} {e} {body} {s} w d b o f) depth fits free =
      let less = shorter rule.Condition _ _ refl (_, d) in let block_less = shorter rule.Block _ _ refl (_, b) in
      let least = shorter rule.Choice _ _ refl (_, f) in
      reads_if (read.statement depth) word from middle (other ∷ after) to e body (s ∷ []) w d (reads_block b depth (omega arith))
      (reads_else_if (read.statement depth) other after to s o (choice_first (goes_whole rule.Choice refl (_, f)))
      (statement_opens depth after If (omega arith) (choice_first (goes_whole rule.Choice refl (_, f))) ∙ reads_choice f (depth - 1) (omega arith) free))

  pub reads_block : {from to : List Lexeme} {body : List RawStmt} → DerivesBlock from to body → (n : ℕ) → length from ≤ suc n →
      read.block (read.statement n) from ≡ Ok (body, to)
  reads_block (block {opening} {closing} {from} {to} {body} o d c) depth fits =
      in_braces (read.statement depth) opening closing from to body o (reads_statements d depth (omega arith) c [] (length from) (omega arith)) c

  pub reads_statements : {from to : List Lexeme} {body : List RawStmt} → DerivesStatements from to body → (n : ℕ) → length from ≤ n →
      symbol_at to ≡ CloseBrace →
      (found : List RawStmt) (k : ℕ) → length from ≤ k → many (sees_symbol CloseBrace) (read.statement n) k found from ≡ Ok (found ++ body, to)
  reads_statements (statements.none {to}) depth fits ends found k enough = many_closed (read.statement depth) k found to ends enough
  reads_statements (statements.more {from} {middle} {to} {s} {body} d ds) depth fits ends found k enough =
      let less = shorter rule.Statement _ _ refl (_, d) in
      many_more (read.statement depth) (sees_symbol CloseBrace) k found from middle to s body (sees_other CloseBrace from (begins_not d CloseBrace refl))
      (reads_statement d depth fits (statements_not ds Else refl (λ at. let clash : CloseBrace ≡ Else = sym ends ∙ at in cc clash))) less enough
      (reads_statements ds depth (omega arith) ends (found ++ s ∷ []) (k - 1) (omega arith))
