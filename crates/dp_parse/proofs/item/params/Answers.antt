use Rattle.std.proofs.Common.{◌≡◌, refl, ap, ap₂, ◌∙◌, sym, rules, arith, ◌-◌, ◌<◌, length, true, false, Err}
use Rattle.std.proofs.lemmas.Grind.{common_steps}
use Rattle.dp_tokens.specs.declared.symbol.Symbol.TheVariants.{Comma}
use Rattle.dp_tokens.specs.Steps.{sees_symbol, separated}
use Rattle.dp_parse.specs.steps.Programs.{param, params}
use Rattle.dp_parse.proofs.StepLemmas.{after-le}
use Rattle.dp_parse.proofs.Lists.{separated_none, separated_on, separated_off}
use Rattle.dp_parse.proofs.Empty.{param_empty}
use Rattle.dp_parse.proofs.ItemSteps.{param_shorter}
use Rattle.dp_parse.proofs.item.params.Goals as goal

pub returns-in_err-param : goal.returns-in_err-param
returns-in_err-param c =
    let l = c.loop-found in let left = c.param.new.tokens in
    let fails : param l.tokens ≡ Err left → params c.args.tokens.now ≡ Err left = λ h. l.invariant.2
    ∙ separated_none param param_empty l.invariant.0 l.found l.tokens left h l.invariant.1 in
    first_of (search rules, grind (arith, common_steps))

pub returns-then-not-eat : goal.returns-then-not-eat
returns-then-not-eat c =
    let l = c.loop-found in
    let less = param_shorter l.tokens c.param.new.tokens c.in_ok-param.field-0 c.in_ok-param.ensures in
    let seen : sees_symbol Comma c.param.new.tokens ≡ false = sym c.eat-in-loop-found.ensures.found ∙ c.if-not-eat.true in
    let over = separated_off param l.invariant.0 l.found l.tokens c.param.new.tokens c.in_ok-param.field-0 c.in_ok-param.ensures less l.invariant.1 seen in
    l.invariant.2 ∙ over ∙ rw (c.in_ok-push.ensures.ok, c.eat-in-loop-found.ensures.after) refl

pub loop-found-smaller : goal.loop-found-smaller
loop-found-smaller c =
    let l = c.loop-found in
    let less = param_shorter l.tokens c.param.new.tokens c.in_ok-param.field-0 c.in_ok-param.ensures in
    let passed = after-le Comma c.param.new.tokens in let same = ap length c.eat-in-loop-found.ensures.after in
    let smaller : length c.eat-in-loop-found.new.self < length l.tokens = omega arith in smaller

pub loop-found-preserved : goal.loop-found-preserved
loop-found-preserved c =
    let l = c.loop-found in
    let less = param_shorter l.tokens c.param.new.tokens c.in_ok-param.field-0 c.in_ok-param.ensures in
    let passed = after-le Comma c.param.new.tokens in let same = ap length c.eat-in-loop-found.ensures.after in
    let fits = l.invariant.1 in
    let seen : sees_symbol Comma c.param.new.tokens ≡ true = sym c.eat-in-loop-found.ensures.found ∙ c.if-not-eat.false in
    let turn = separated_on param l.invariant.0 l.found l.tokens c.param.new.tokens c.in_ok-param.field-0 c.in_ok-param.ensures less l.invariant.1 seen in (
      l.invariant.0 - 1,
      omega arith,
      l.invariant.2 ∙ turn ∙ ap₂ (separated param (l.invariant.0 - 1)) (sym c.in_ok-push.ensures.ok) (sym
          c.eat-in-loop-found.ensures.after),
    )
