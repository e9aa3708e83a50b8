use Rattle.std.proofs.Common.{◌+◌, ◌<◌, ◌∷◌, drop, length, sym, ap, ◌∙◌, refl, rules, arith}
use Rattle.std.proofs.lemmas.Grind.{common_steps}
use Rattle.std.proofs.lemmas.List.{at_drop_more, at_drop_all}
use Rattle.dp_check.specs.Place.{after_params, with_scalar}
use Rattle.dp_check.specs.Answer.{param_answer, params_answer, onto}
use Rattle.dp_check.proofs.AnswerLemmas.{onto-all, loop_more, loop_refused, loop_end}
use Rattle.dp_check.proofs.ItemLemmas.{params_answer-none, params_answer-more}
use Rattle.dp_check.proofs.items.parameters.Goals as goal

pub loop-name-init : goal.loop-name-init
loop-name-init c =
    let p = c.args.place.now in let all = c.args.all.now in
    (sym (onto-all (params_answer p all)) ∙ ap (λ d. onto d (params_answer p all)) (sym c.new-done.ensures), refl)

pub returns-in_err-parameter-clause-value : goal.returns-in_err-parameter-clause-value
returns-in_err-parameter-clause-value c =
    let below : c.loop-name.name-index < length c.args.all.now = omega arith in
    let refused = loop_refused params_answer param_answer with_scalar params_answer-more c.args.all.now c.loop-name.name-index c.loop-name.place
    c.loop-name.done _ c.loop-name.invariant.0 c.name-item.result below c.name-item.is in
    first_of (search rules, grind (arith, common_steps))

pub loop-name-preserved : goal.loop-name-preserved
loop-name-preserved c =
    let all = c.args.all.now in let i = c.loop-name.name-index in let p = c.loop-name.place in
    let below : c.loop-name.name-index < length c.args.all.now = omega arith in
    let more = loop_more params_answer param_answer with_scalar params_answer-more all i p c.loop-name.done _ c.loop-name.invariant.0 c.name-item.result
    below c.name-item.is
    c.in_ok-parameter.field-0 c.in_ok-parameter.ensures.value c.parameter.new.place c.in_ok-parameter.ensures.place in
    let rest = drop (i + 1) all in (
      more ∙ ap (λ d. onto d (params_answer c.parameter.new.place rest)) (sym c.in_ok-push.ensures.ok),
      c.loop-name.invariant.1 ∙ at_drop_more (after_params p) all i c.name-item.result below ∙ ap (λ x. after_params p (x ∷ rest)) (sym c.name-item.is)
          ∙ ap (λ q. after_params q rest) (sym c.in_ok-parameter.ensures.place),
    )

pub returns-clause-value : goal.returns-clause-value
returns-clause-value c =
    loop_end params_answer c.args.all.now c.loop-name.name-index c.loop-name.place c.loop-name.done c.loop-name.invariant.0 (omega arith)
    (params_answer-none c.loop-name.place)

pub returns-clause-place : goal.returns-clause-place
returns-clause-place c = sym (c.loop-name.invariant.1 ∙ at_drop_all (after_params c.loop-name.place) c.args.all.now c.loop-name.name-index (omega arith))
