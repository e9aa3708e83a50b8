use Rattle.std.proofs.Common.{◌≡◌, ◌++◌, Ok, Err, sym, ◌∙◌, rules, arith}
use Rattle.std.proofs.lemmas.Grind.{common_steps}
use Rattle.dp_tree.specs.declared.Stmt.TheVariants as code
use Rattle.dp_check.specs.declared.fail.CheckFail.{CheckFail}
use Rattle.dp_check.specs.Place.{parts_all, place_passed}
use Rattle.dp_check.specs.Answer.{loop_answer, stepped_answer}
use Rattle.dp_check.proofs.RegionLemmas.{stepped_answer_refused, stepped_answer_given}
use Rattle.dp_check.proofs.region.stepped_region.Goals as goal

pub returns-in_err-body-clause-value : goal.returns-in_err-body-clause-value
returns-in_err-body-clause-value c =
    let p = c.args.place.now in let k = c.args.region in let cond = c.args.cond.now in let step = c.args.step.now in let body = c.args.body.now in
    let behind = c.in_ok-site.ensures.place in
    let refused : (e : CheckFail) → loop_answer c.evaluation.new.place step body ≡ Err e → stepped_answer p k cond step body ≡ Err e = λ e h.
    stepped_answer_refused p k cond step body c.in_ok-site.cond c.in_ok-site.ensures.expr e ((λ i. loop_answer (sym behind i) step body) ∙ h) in
    first_of (search rules, grind (arith, common_steps))

pub returns-clause-value : goal.returns-clause-value
returns-clause-value c =
    let p = c.args.place.now in let k = c.args.region in let cond = c.args.cond.now in let step = c.args.step.now in let body = c.args.body.now in
    let inside = (λ i. loop_answer (sym c.in_ok-site.ensures.place i) step body) ∙ c.in_ok-body.ensures.value in
    stepped_answer_given p k cond step body c.in_ok-site.cond c.in_ok-site.ensures.expr c.in_ok-body.body inside
    ∙ (λ i. Ok (code.Region k (sym c.in_ok-site.ensures.site i) c.in_ok-site.cond c.in_ok-body.body))

pub returns-clause-place : goal.returns-clause-place
returns-clause-place c =
    c.in_ok-body.ensures.place ∙ (λ i. place_passed (c.in_ok-site.ensures.place i) (parts_all c.args.body.now ++ parts_all c.args.step.now))
