use Rattle.std.proofs.Common.{◌≡◌, refl, ap, ◌∙◌, sym, rules, arith, ◌-◌, List, true, false, Err}
use Rattle.std.proofs.lemmas.Grind.{common_steps}
use Rattle.dp_lex.specs.Token.{Lexeme}
use Rattle.dp_tree.specs.declared.raw.RawStmt.{RawStmt}
use Rattle.dp_tokens.specs.declared.symbol.Symbol.TheVariants.{CloseBrace}
use Rattle.dp_tokens.specs.Steps.{Outcome, ◌>>=◌, parse_then, pure, expect, sees_symbol}
use Rattle.dp_parse.specs.steps.Statements.{statement}
use Rattle.dp_parse.specs.steps.Regions as read
use Rattle.dp_parse.proofs.StepLemmas.{seen_some}
use Rattle.dp_parse.proofs.Lists.{many_turn, many_none, many_end}
use Rattle.dp_parse.proofs.Empty.{inside_empty}
use Rattle.dp_parse.proofs.RegionSound.{inside_shorter}
use Rattle.dp_parse.proofs.region.body.Goals as goal

-- what follows the statements of a region's body
abbrev closing : Outcome (List RawStmt) → Outcome (List RawStmt)
closing o = parse_then o (λ body. expect CloseBrace >>= (λ _. pure body))

pub returns-in_err-inside : goal.returns-in_err-inside
returns-in_err-inside c =
    let l = c.loop-alloc in let one = read.inside (statement c.args.depth) in
    let goes : sees_symbol CloseBrace l.tokens ≡ false = sym c.sees.ensures ∙ c.loop-alloc-test.true in
    let left = c.inside.new.tokens in
    let fails : one l.tokens ≡ Err left → read.body (statement c.args.depth) c.args.tokens.now ≡ Err left = λ h.
    l.invariant.2 ∙ ap closing (many_none one (sees_symbol CloseBrace) (inside_empty c.args.depth) l.invariant.0 l.body l.tokens left goes h l.invariant.1) in
    first_of (search rules, grind (arith, common_steps))

pub loop-alloc-smaller : goal.loop-alloc-smaller
loop-alloc-smaller c = inside_shorter c.args.depth c.loop-alloc.tokens c.inside.new.tokens c.in_ok-inside.field-0 c.in_ok-inside.ensures

pub loop-alloc-preserved : goal.loop-alloc-preserved
loop-alloc-preserved c =
    let l = c.loop-alloc in let one = read.inside (statement c.args.depth) in
    let goes : sees_symbol CloseBrace l.tokens ≡ false = sym c.sees.ensures ∙ c.loop-alloc-test.true in
    let less = inside_shorter c.args.depth l.tokens c.inside.new.tokens c.in_ok-inside.field-0 c.in_ok-inside.ensures in
    let fits = l.invariant.1 in
    let turn = many_turn one (sees_symbol CloseBrace) l.invariant.0 l.body l.tokens c.inside.new.tokens c.in_ok-inside.field-0 goes c.in_ok-inside.ensures
    less l.invariant.1 in
    (l.invariant.0 - 1, omega arith, l.invariant.2 ∙ ap closing turn ∙ rw c.in_ok-push.ensures.ok refl)

pub returns-in_err-expect-2 : goal.returns-in_err-expect-2
returns-in_err-expect-2 c =
    let l = c.loop-alloc in let over : sees_symbol CloseBrace l.tokens ≡ true = sym c.sees.ensures ∙ c.loop-alloc-test.false in
    let ends = many_end (read.inside (statement c.args.depth)) (sees_symbol CloseBrace) l.invariant.0 l.body l.tokens over
    (seen_some CloseBrace l.tokens (λ e. cc) over) l.invariant.1 in
    let fails : read.body (statement c.args.depth) c.args.tokens.now ≡ Err c.expect-2.new.self =
    l.invariant.2 ∙ ap closing ends ∙ ap (λ (o : Outcome Lexeme). parse_then o (λ _. pure l.body)) c.in_err-expect-2.ensures.refused in
    first_of (search rules, grind (arith, common_steps))

pub returns : goal.returns
returns c =
    let l = c.loop-alloc in let over : sees_symbol CloseBrace l.tokens ≡ true = sym c.sees.ensures ∙ c.loop-alloc-test.false in
    let ends = many_end (read.inside (statement c.args.depth)) (sees_symbol CloseBrace) l.invariant.0 l.body l.tokens over
    (seen_some CloseBrace l.tokens (λ e. cc) over) l.invariant.1 in
    l.invariant.2 ∙ ap closing ends ∙ ap (λ (o : Outcome Lexeme). parse_then o (λ _. pure l.body)) c.in_ok-expect-2.ensures.taken
