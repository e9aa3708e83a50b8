use Rattle.std.proofs.Common.{◌≡◌, refl, ap, ap₂, ◌∙◌, sym, rules, arith, ◌-◌, ◌<◌, length, true, false, Err}
use Rattle.std.proofs.lemmas.Grind.{common_steps}
use Rattle.dp_tokens.specs.declared.symbol.Symbol.TheVariants.{Comma}
use Rattle.dp_tokens.specs.Steps.{sees_symbol, separated}
use Rattle.dp_parse.specs.steps.Expressions.{whole, list}
use Rattle.dp_parse.proofs.StepLemmas.{after-le}
use Rattle.dp_parse.proofs.Lists.{separated_none, separated_on, separated_off}
use Rattle.dp_parse.proofs.Empty.{whole_empty}
use Rattle.dp_parse.specs.Rules as rule
use Rattle.dp_parse.proofs.Spans.{shorter}
use Rattle.dp_parse.proofs.ExpressionSound.{sound_whole}
use Rattle.dp_parse.proofs.expression.list.Goals as goal

pub loop-found-init : goal.loop-found-init
unfolding list
loop-found-init c = (
  length c.args.tokens.now,
  omega arith,
  ap (λ found. separated whole (length c.args.tokens.now) found c.args.tokens.now) (sym
      c.new-found.ensures),
)

pub returns-in_err-whole : goal.returns-in_err-whole
returns-in_err-whole c =
    let l = c.loop-found in let left = c.whole.new.tokens in
    let fails : whole l.tokens ≡ Err left → list c.args.tokens.now ≡ Err left = λ h. l.invariant.2
    ∙ separated_none whole whole_empty l.invariant.0 l.found l.tokens left h l.invariant.1 in
    first_of (search rules, grind (arith, common_steps))

pub returns-then-not-eat : goal.returns-then-not-eat
returns-then-not-eat c =
    let l = c.loop-found in
    let less = shorter (rule.Expression _) _ _ refl (_, sound_whole l.tokens c.whole.new.tokens c.in_ok-whole.field-0 c.in_ok-whole.ensures) in
    let seen : sees_symbol Comma c.whole.new.tokens ≡ false = sym c.eat.ensures.found ∙ c.if-not-eat.true in
    let over = separated_off whole l.invariant.0 l.found l.tokens c.whole.new.tokens c.in_ok-whole.field-0 c.in_ok-whole.ensures less l.invariant.1 seen in
    l.invariant.2 ∙ over ∙ rw (c.in_ok-push.ensures.ok, c.eat.ensures.after) refl

pub loop-found-smaller : goal.loop-found-smaller
loop-found-smaller c =
    let l = c.loop-found in
    let less = shorter (rule.Expression _) _ _ refl (_, sound_whole l.tokens c.whole.new.tokens c.in_ok-whole.field-0 c.in_ok-whole.ensures) in
    let passed = after-le Comma c.whole.new.tokens in let same = ap length c.eat.ensures.after in
    let smaller : length c.eat.new.self < length l.tokens = omega arith in smaller

pub loop-found-preserved : goal.loop-found-preserved
loop-found-preserved c =
    let l = c.loop-found in
    let less = shorter (rule.Expression _) _ _ refl (_, sound_whole l.tokens c.whole.new.tokens c.in_ok-whole.field-0 c.in_ok-whole.ensures) in
    let passed = after-le Comma c.whole.new.tokens in let same = ap length c.eat.ensures.after in
    let fits = l.invariant.1 in
    let seen : sees_symbol Comma c.whole.new.tokens ≡ true = sym c.eat.ensures.found ∙ c.if-not-eat.false in
    let turn = separated_on whole l.invariant.0 l.found l.tokens c.whole.new.tokens c.in_ok-whole.field-0 c.in_ok-whole.ensures less l.invariant.1 seen in
    (l.invariant.0 - 1, omega arith, l.invariant.2 ∙ turn ∙ ap₂ (separated whole (l.invariant.0 - 1)) (sym c.in_ok-push.ensures.ok) (sym c.eat.ensures.after))
