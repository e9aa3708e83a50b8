use Rattle.std.proofs.Common.{◌≡◌, refl, ap, ◌∙◌, sym, rules, arith, ◌-◌, List, true, false, Err}
use Rattle.std.proofs.lemmas.Grind.{common_steps}
use Rattle.dp_tree.specs.declared.raw.RawStmt.{RawStmt}
use Rattle.dp_tokens.specs.Steps.{Outcome, ◌>>=◌, parse_then, pure}
use Rattle.dp_parse.specs.steps.Programs as read
use Rattle.dp_parse.proofs.Lists.{many_turn, many_none, many_end}
use Rattle.dp_parse.proofs.Empty.{top_empty}
use Rattle.dp_parse.proofs.ItemSteps.{top_shorter, ends_some}
use Rattle.dp_parse.proofs.item.main_part.Goals as goal

-- what follows the statements of `main`
abbrev closing : Outcome (List RawStmt) → Outcome (List RawStmt)
closing o = parse_then o (λ body. read.end >>= (λ _. pure body))

pub returns-in_err-top : goal.returns-in_err-top
returns-in_err-top c =
    let l = c.loop-alloc in let goes : read.ends l.tokens ≡ false = sym c.ends.ensures ∙ c.loop-alloc-test.true in
    let left = c.top.new.tokens in
    let fails : read.top l.tokens ≡ Err left → read.main_part c.args.tokens.now ≡ Err left = λ h.
    l.invariant.2 ∙ ap closing (many_none read.top read.ends top_empty l.invariant.0 l.body l.tokens left goes h l.invariant.1) in
    first_of (search rules, grind (arith, common_steps))

pub loop-alloc-smaller : goal.loop-alloc-smaller
loop-alloc-smaller c = top_shorter c.loop-alloc.tokens c.top.new.tokens c.in_ok-top.field-0 c.in_ok-top.ensures

pub loop-alloc-preserved : goal.loop-alloc-preserved
loop-alloc-preserved c =
    let l = c.loop-alloc in let goes : read.ends l.tokens ≡ false = sym c.ends.ensures ∙ c.loop-alloc-test.true in
    let less = top_shorter l.tokens c.top.new.tokens c.in_ok-top.field-0 c.in_ok-top.ensures in
    let fits = l.invariant.1 in
    let turn = many_turn read.top read.ends l.invariant.0 l.body l.tokens c.top.new.tokens c.in_ok-top.field-0 goes c.in_ok-top.ensures less l.invariant.1 in
    (l.invariant.0 - 1, omega arith, l.invariant.2 ∙ ap closing turn ∙ rw c.in_ok-push.ensures.ok refl)

pub returns-in_err-end : goal.returns-in_err-end
returns-in_err-end c =
    let l = c.loop-alloc in let over : read.ends l.tokens ≡ true = sym c.ends.ensures ∙ c.loop-alloc-test.false in
    let ends = many_end read.top read.ends l.invariant.0 l.body l.tokens over (ends_some l.tokens over) l.invariant.1 in
    let left = c.end.new.tokens in
    let fails : read.end l.tokens ≡ Err left → read.main_part c.args.tokens.now ≡ Err left = λ h.
    l.invariant.2 ∙ ap closing ends ∙ ap (λ (o : Outcome (Unit {0})). parse_then o (λ _. pure l.body)) h in
    first_of (search rules, grind (arith, common_steps))

pub returns : goal.returns
returns c =
    let l = c.loop-alloc in let over : read.ends l.tokens ≡ true = sym c.ends.ensures ∙ c.loop-alloc-test.false in
    let ends = many_end read.top read.ends l.invariant.0 l.body l.tokens over (ends_some l.tokens over) l.invariant.1 in
    l.invariant.2 ∙ ap closing ends ∙ ap (λ (o : Outcome (Unit {0})). parse_then o (λ _. pure l.body)) c.in_ok-end.ensures.reads
