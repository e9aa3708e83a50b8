-- The forms of a statement as they are read.
use Rattle.std.proofs.Common.{◌≡◌, refl, ap, ◌∙◌, sym, ℕ, ◌-◌, ◌≤◌, Bool, true, false, List, [], ◌∷◌, ◌++◌, length, append_assoc, arith, None, Ok}
use Rattle.dp_lex.specs.Token.{Lexeme}
use Rattle.dp_tree.specs.declared.raw.RawExpr.{RawExpr}
use Rattle.dp_tree.specs.declared.raw.RawStmt.{RawStmt}
use Rattle.dp_tree.specs.declared.raw.RawStmt.TheVariants as tree
use Rattle.dp_tokens.specs.declared.symbol.Symbol.{Symbol}
use Rattle.dp_tokens.specs.declared.symbol.Symbol.TheVariants.{Name, Int, Print, While, For, If, OpenParen, CloseParen, OpenBracket, OpenBrace, Semicolon}
use Rattle.dp_tokens.specs.declared.symbol.Symbol.TheVariants.{Comma}
use Rattle.dp_parse.specs.declared.level.Level.TheVariants.{Or}
use Rattle.dp_tokens.specs.Symbols.{symbol_at, Is}
use Rattle.dp_parse.specs.Levels.{joining, prefixing}
use Rattle.dp_parse.specs.declared.level.Level.{Level}
use Rattle.dp_tokens.specs.Leaves.{name_of}
use Rattle.dp_parse.specs.Expressions.{DerivesExpr, operand, chain, prefix, number, scalar, element, parenthesized, DerivesList, last, more}
use Rattle.dp_parse.specs.Statements.{DerivesArguments, none, some, DerivesCondition, condition, DerivesStatement, declare, assign, store, call, print, loop}
use Rattle.dp_parse.specs.Statements.{for_loop, choice, alone, otherwise, else_if, DerivesBlock, block, DerivesStatements}
use Rattle.dp_parse.specs.Statements as statements
use Rattle.dp_tokens.specs.Steps.{Outcome, Parser, parse_then, sees_symbol, separated}
use Rattle.dp_parse.specs.steps.Expressions as expr
use Rattle.dp_parse.specs.steps.Statements as read
use Rattle.dp_parse.proofs.StepLemmas.{pair, expects, sees_is, sees_other, after_is, after_other}
use Rattle.dp_parse.proofs.Lists.{separated_on, separated_off}
use Rattle.dp_parse.specs.Rules.{Statement, Choice}
use Rattle.dp_parse.specs.Rules as rule
use Rattle.dp_parse.proofs.Spans.{shorter}
use Rattle.dp_parse.proofs.Going.{Goes, by, within, word_first, goes_whole}
use Rattle.dp_parse.proofs.ExpressionComplete.{whole_read}

-- a step that answers, and what follows it
pub goes : {A B : Type 0} {o : Outcome A} {a : A} {left : List Lexeme} (f : A → Parser B) → o ≡ Ok (a, left) → parse_then o f ≡ f a left
goes f e = ap (λ o. parse_then o f) e

-- an expression is read up to the symbol that closes it
pub before : (s : Symbol) {t : Lexeme} {from to : List Lexeme} {e : RawExpr} → joining s ≡ None → (s ≡ OpenBracket → ⊥) → DerivesExpr Or from (t ∷ to) e →
    Is s t → expr.whole from ≡ Ok (e, t ∷ to)
unfolding symbol_at
before s {t} {from} {to} {e} free other d h = whole_read from (t ∷ to) e d (ap joining h ∙ free) (λ k. other (sym h ∙ k))

pub reads_condition : {from to : List Lexeme} {e : RawExpr} → DerivesCondition from to e → read.condition from ≡ Ok (e, to)
unfolding read.condition
reads_condition (condition {opening} {closing} {from} {to} {e} o d c) =
    rw (expects OpenParen opening from o) (rw (before CloseParen refl (λ e. cc e) d c) (rw (expects CloseParen closing to c)))

-- a list is read on, behind those that were found
reads_list : {from to : List Lexeme} {es : List RawExpr} → DerivesList from to es → (closing : Lexeme) (rest : List Lexeme) → to ≡ closing ∷ rest →
    Is CloseParen closing →
    (k : ℕ) (found : List RawExpr) → length from ≤ k → separated expr.whole k found from ≡ Ok (found ++ es, to)
unfolding symbol_at
reads_list (last {from} {to} {e} d) closing rest splits h k found fits =
    let at : DerivesExpr Or from (closing ∷ rest) e = rw (← splits) d in
    let less = shorter (rule.Expression _) _ _ refl (_, d) in
    let stop : sees_symbol Comma to ≡ false = rw splits (sees_other Comma (closing ∷ rest) (λ c. let clash : CloseParen ≡ Comma = sym h ∙ c in cc clash)) in
    separated_off expr.whole k found from to e (before CloseParen refl (λ e. cc e) at h ∙ ap (λ (ts : List Lexeme). Ok (pair e ts)) (sym splits)) less fits stop
    ∙ ap (λ (ts : List Lexeme). Ok (pair (found ++ e ∷ []) ts)) (after_other Comma to stop)
reads_list (more {comma} {from} {middle} {to} {e} {es} d c ds) closing rest splits h k found fits =
    let less = shorter (rule.Expression _) _ _ refl (_, d) in
    separated_on expr.whole k found from (comma ∷ middle) e (before Comma refl (λ e. cc e) d c) less fits (sees_is Comma comma middle c)
    ∙ ap (separated expr.whole (k - 1) (found ++ e ∷ [])) (after_is Comma comma middle c)
    ∙ reads_list ds closing rest splits h (k - 1) (found ++ e ∷ []) (omega arith)
    ∙ ap (λ (all : List RawExpr). Ok (pair all to)) (append_assoc found (e ∷ []) es)

-- no expression begins with `)`
pub no_paren : {l : Level} {from to : List Lexeme} {e : RawExpr} → DerivesExpr l from to e → symbol_at from ≡ CloseParen → ⊥
unfolding symbol_at
no_paren (operand o d) at = no_paren d at
no_paren (chain j o d f) at = no_paren d at
no_paren (prefix {op = op} p d) at = let clash = sym (ap prefixing at) ∙ p in absurd (cc clash)
no_paren (number n) at = let clash = sym n.number ∙ at in absurd (cc clash)
no_paren (scalar n) at = let clash = sym n ∙ at in absurd (cc clash)
no_paren (element n o d c) at = let clash = sym n ∙ at in absurd (cc clash)
no_paren (parenthesized o d c) at = let clash = sym o ∙ at in absurd (cc clash)

no_paren_list : {from to : List Lexeme} {es : List RawExpr} → DerivesList from to es → symbol_at from ≡ CloseParen → ⊥
no_paren_list (last d) at = no_paren d at
no_paren_list (more d c ds) at = no_paren d at

pub reads_arguments : {from to : List Lexeme} {es : List RawExpr} → DerivesArguments from to es → (closing : Lexeme) (rest : List Lexeme) →
    to ≡ closing ∷ rest → Is CloseParen closing → read.arguments from ≡ Ok (es, to)
unfolding read.arguments expr.list
reads_arguments (none {to}) closing rest splits h =
    let seen : sees_symbol CloseParen to ≡ true = rw splits (sees_is CloseParen closing rest h) in
    ap (λ (b : Bool). read.arguments_by b to) seen
reads_arguments (some {from} {to} {es} d) closing rest splits h =
    ap (λ (b : Bool). read.arguments_by b from) (sees_other CloseParen from (no_paren_list d))
    ∙ reads_list d closing rest splits h (length from) [] (omega arith)

pub reads_call : (name opening closing end : Lexeme) (from to : List Lexeme) (args : List RawExpr) → Is OpenParen opening →
    DerivesArguments from (closing ∷ end ∷ to) args → Is CloseParen closing → Is Semicolon end →
    read.call (name_of name) (opening ∷ from) ≡ Ok (tree.Call (name_of name) args, to)
unfolding read.call
reads_call name opening closing end from to args o d c h =
    rw (expects OpenParen opening from o) (rw (reads_arguments d closing (end ∷ to) refl c)
    (rw (expects CloseParen closing (end ∷ to) c) (rw (expects Semicolon end to h))))

pub reads_print : (word end : Lexeme) (from to : List Lexeme) (e : RawExpr) → Is Print word → DerivesCondition from (end ∷ to) e → Is Semicolon end →
    read.print (word ∷ from) ≡ Ok (tree.Print word.line e, to)
unfolding read.print
reads_print word end from to e w d h =
    rw (expects Print word from w) (rw (reads_condition d) (rw (expects Semicolon end to h)))

pub reads_repeated : (statement : Parser RawStmt) (word : Lexeme) (from middle to : List Lexeme) (e : RawExpr) (body : List RawStmt) → Is While word →
    DerivesCondition from middle e →
    read.block statement middle ≡ Ok (body, to) → read.repeated statement (word ∷ from) ≡ Ok (tree.While word.line false e body, to)
unfolding read.repeated
reads_repeated statement word from middle to e body w d h =
    rw (expects While word from w) (rw (reads_condition d) (rw h))

pub reads_if : (statement : Parser RawStmt) (word : Lexeme) (from middle rest to : List Lexeme) (e : RawExpr) (body part : List RawStmt) → Is If word →
    DerivesCondition from middle e →
    read.block statement middle ≡ Ok (body, rest) → read.otherwise statement rest ≡ Ok (part, to) →
    read.choice statement (word ∷ from) ≡ Ok (tree.If word.line e body part, to)
unfolding read.choice
reads_if statement word from middle rest to e body part w d h g =
    rw (expects If word from w) (rw (reads_condition d) (rw h (rw g)))

-- the symbols that begin a statement
abbrev pub begins : Symbol → Bool
begins Int = true
begins Name = true
begins Print = true
begins While = true
begins For = true
begins If = true
begins _ = false

pub choice_first : {from to : List Lexeme} → Goes Choice from to → symbol_at from ≡ If
choice_first (by rule.alone g) = word_first g
choice_first (by rule.otherwise g) = word_first g
choice_first (by rule.else_if g) = word_first g

pub statement_first : {from to : List Lexeme} → Goes Statement from to → begins (symbol_at from) ≡ true
statement_first (by rule.declare g) = ap begins (word_first g)
statement_first (by rule.assign g) = ap begins (word_first g)
statement_first (by rule.store g) = ap begins (word_first g)
statement_first (by rule.call g) = ap begins (word_first g)
statement_first (by rule.print g) = ap begins (word_first g)
statement_first (by rule.loop g) = ap begins (word_first g)
statement_first (by rule.for_loop g) = ap begins (word_first g)
statement_first (by rule.choice (within g)) = ap begins (choice_first g)

pub first_not : {from to : List Lexeme} → Goes Statement from to → (k : Symbol) → begins k ≡ false → symbol_at from ≡ k → ⊥
first_not g k off at = let clash : true ≡ false = sym (statement_first g) ∙ ap begins at ∙ off in cc clash

pub begins_not : {from to : List Lexeme} {s : RawStmt} → DerivesStatement from to s → (k : Symbol) → begins k ≡ false → symbol_at from ≡ k → ⊥
begins_not d = first_not (goes_whole Statement refl (_, d))

pub block_begins : {from to : List Lexeme} {body : List RawStmt} → DerivesBlock from to body → symbol_at from ≡ OpenBrace
unfolding symbol_at
block_begins (block o d c) = o

-- what stands before another symbol than those that begin a statement doesn't go on by one
pub statements_not : {from to : List Lexeme} {body : List RawStmt} → DerivesStatements from to body → (k : Symbol) → begins k ≡ false → (symbol_at to ≡ k → ⊥) →
    symbol_at from ≡ k → ⊥
statements_not statements.none k off other at = other at
statements_not (statements.more d ds) k off other at = begins_not d k off at
