use Rattle.std.proofs.Common.{◌≡◌, refl, ap, ◌∙◌, sym, rules, arith, ◌-◌, List, true, false, Err}
use Rattle.std.proofs.lemmas.Grind.{common_steps}
use Rattle.dp_lex.specs.Token.{Lexeme}
use Rattle.dp_tree.specs.declared.raw.RawStmt.{RawStmt}
use Rattle.dp_tokens.specs.declared.symbol.Symbol.TheVariants.{CloseBrace, Int, Name, Print, While, For}
use Rattle.dp_tokens.specs.Steps.{Outcome, ◌>>=◌, parse_then, pure, expect, sees_symbol}
use Rattle.dp_parse.specs.steps.Statements as read
use Rattle.dp_parse.proofs.StepLemmas.{seen_some}
use Rattle.dp_parse.proofs.Empty.{statement_empty}
use Rattle.dp_parse.specs.Rules as rule
use Rattle.dp_parse.proofs.Spans.{shorter}
use Rattle.dp_parse.proofs.Lists.{many_turn, many_none, many_end}
use Rattle.dp_parse.proofs.StatementSound.{sound_statement}
use Rattle.dp_parse.proofs.StatementSteps.{statement_opens, choice_by}
use Rattle.dp_parse.proofs.statement.+statement.Goals as goal

-- what follows the statements of a block
abbrev closing : Outcome (List RawStmt) → Outcome (List RawStmt)
closing o = parse_then o (λ body. expect CloseBrace >>= (λ _. pure body))

pub block-returns-in_err-statement : goal.block-returns-in_err-statement
block-returns-in_err-statement t c =
    let l = c.loop-alloc in let statement = read.statement c.args.depth in
    let goes : sees_symbol CloseBrace l.tokens ≡ false = sym c.sees.ensures ∙ c.loop-alloc-test.true in
    let left = c.statement.new.tokens in
    let fails : statement l.tokens ≡ Err left → read.block statement c.args.tokens.now ≡ Err left = λ h.
    l.invariant.2 ∙ ap closing (many_none statement (sees_symbol CloseBrace) (statement_empty c.args.depth) l.invariant.0 l.body l.tokens left
    goes h l.invariant.1) in
    first_of (search rules, grind (arith, common_steps))

pub block-loop-alloc-smaller : goal.block-loop-alloc-smaller
block-loop-alloc-smaller t c =
    let l = c.loop-alloc in
    shorter rule.Statement _ _ refl (_, sound_statement c.args.depth l.tokens c.statement.new.tokens c.in_ok-statement.field-0 c.in_ok-statement.ensures)

pub block-loop-alloc-preserved : goal.block-loop-alloc-preserved
block-loop-alloc-preserved t c =
    let l = c.loop-alloc in let statement = read.statement c.args.depth in
    let goes : sees_symbol CloseBrace l.tokens ≡ false = sym c.sees.ensures ∙ c.loop-alloc-test.true in
    let less = shorter rule.Statement _ _ refl
    (_, sound_statement c.args.depth l.tokens c.statement.new.tokens c.in_ok-statement.field-0 c.in_ok-statement.ensures) in
    let fits = l.invariant.1 in
    let turn = many_turn statement (sees_symbol CloseBrace) l.invariant.0 l.body l.tokens c.statement.new.tokens c.in_ok-statement.field-0 goes
    c.in_ok-statement.ensures less l.invariant.1 in
    (l.invariant.0 - 1, omega arith, l.invariant.2 ∙ ap closing turn ∙ rw c.in_ok-push.ensures.ok refl)

pub block-returns-in_err-expect-2 : goal.block-returns-in_err-expect-2
block-returns-in_err-expect-2 t c =
    let l = c.loop-alloc in let over : sees_symbol CloseBrace l.tokens ≡ true = sym c.sees.ensures ∙ c.loop-alloc-test.false in
    let ends = many_end (read.statement c.args.depth) (sees_symbol CloseBrace) l.invariant.0 l.body l.tokens over
    (seen_some CloseBrace l.tokens (λ e. cc) over) l.invariant.1 in
    let fails : read.block (read.statement c.args.depth) c.args.tokens.now ≡ Err c.expect-2.new.self =
    l.invariant.2 ∙ ap closing ends ∙ ap (λ (o : Outcome Lexeme). parse_then o (λ _. pure l.body)) c.in_err-expect-2.ensures.refused in
    first_of (search rules, grind (arith, common_steps))

pub block-returns : goal.block-returns
block-returns t c =
    let l = c.loop-alloc in let over : sees_symbol CloseBrace l.tokens ≡ true = sym c.sees.ensures ∙ c.loop-alloc-test.false in
    let ends = many_end (read.statement c.args.depth) (sees_symbol CloseBrace) l.invariant.0 l.body l.tokens over
    (seen_some CloseBrace l.tokens (λ e. cc) over) l.invariant.1 in
    l.invariant.2 ∙ ap closing ends ∙ ap (λ (o : Outcome Lexeme). parse_then o (λ _. pure l.body)) c.in_ok-expect-2.ensures.taken

pub statement-returns-in-Int : goal.statement-returns-in-Int
statement-returns-in-Int t c =
    rw (statement_opens c.args.depth c.args.tokens.now Int (omega arith) (sym c.peek.ensures ∙ c.in-Int.is)) c.declaration.ensures

pub statement-returns-in-Name : goal.statement-returns-in-Name
statement-returns-in-Name t c =
    rw (statement_opens c.args.depth c.args.tokens.now Name (omega arith) (sym c.peek.ensures ∙ c.in-Name.is)) c.named.ensures

pub statement-returns-in-Print : goal.statement-returns-in-Print
statement-returns-in-Print t c =
    rw (statement_opens c.args.depth c.args.tokens.now Print (omega arith) (sym c.peek.ensures ∙ c.in-Print.is)) c.print.ensures

pub statement-returns-in-While : goal.statement-returns-in-While
statement-returns-in-While t c =
    rw (statement_opens c.args.depth c.args.tokens.now While (omega arith) (sym c.peek.ensures ∙ c.in-While.is)) c.repeated.ensures

pub statement-returns-in-For : goal.statement-returns-in-For
statement-returns-in-For t c =
    rw (statement_opens c.args.depth c.args.tokens.now For (omega arith) (sym c.peek.ensures ∙ c.in-For.is)) c.counted.ensures

pub statement-returns-in_default : goal.statement-returns-in_default
statement-returns-in_default t c =
    rw (
      statement_opens c.args.depth c.args.tokens.now c.peek.result (omega arith) (sym c.peek.ensures),
      choice_by (read.statement (c.args.depth - 1)) c.peek.result c.in_default.not-Int c.in_default.not-Name c.in_default.not-Print c.in_default.not-While
          c.in_default.not-For,
    ) c.choice.ensures
