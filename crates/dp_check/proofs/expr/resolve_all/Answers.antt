use Rattle.std.proofs.Common.{drop, ◌+◌, ◌<◌, length, sym, ap, ◌∙◌, refl, rules, arith}
use Rattle.std.proofs.lemmas.Grind.{common_steps}
use Rattle.dp_check.specs.Answer.{expr_answer, args_answer, onto}
use Rattle.dp_check.proofs.AnswerLemmas.{onto-all, loop_more, loop_refused, loop_end}
use Rattle.dp_check.proofs.ExprLemmas.{args_answer-none, args_answer-more}
use Rattle.dp_check.proofs.expr.resolve_all.Goals as goal

pub loop-e-init : goal.loop-e-init
loop-e-init c = sym (onto-all (args_answer c.args.names.now c.args.all.now)) ∙ ap (λ d. onto d (args_answer c.args.names.now c.args.all.now))
    (sym c.new-done.ensures)

pub returns-in_err-resolve : goal.returns-in_err-resolve
returns-in_err-resolve c =
    let below : c.loop-e.e-index < length c.args.all.now = omega arith in
    let refused = loop_refused args_answer expr_answer (λ p a. p) args_answer-more c.args.all.now c.loop-e.e-index c.args.names.now c.loop-e.done _
    c.loop-e.invariant c.e-item.result below c.e-item.is in
    first_of (search rules, grind (arith, common_steps))

pub loop-e-preserved : goal.loop-e-preserved
loop-e-preserved c =
    let below : c.loop-e.e-index < length c.args.all.now = omega arith in
    let more = loop_more args_answer expr_answer (λ p a. p) args_answer-more c.args.all.now c.loop-e.e-index c.args.names.now c.loop-e.done _ c.loop-e.invariant
    c.e-item.result below c.e-item.is
    c.in_ok-resolve.field-0 c.in_ok-resolve.ensures c.args.names.now refl in
    more ∙ ap (λ d. onto d (args_answer c.args.names.now (drop (c.loop-e.e-index + 1) c.args.all.now))) (sym c.in_ok-push.ensures.ok)

pub returns : goal.returns
returns c =
    loop_end args_answer c.args.all.now c.loop-e.e-index c.args.names.now c.loop-e.done c.loop-e.invariant (omega arith) (args_answer-none c.args.names.now)
