use Rattle.std.proofs.Common.{◌++◌, ◌∷◌, [], ◌+◌, ◌<◌, drop, length, sym, ap, ◌∙◌, rules, arith}
use Rattle.std.proofs.lemmas.Grind.{common_steps}
use Rattle.dp_check.specs.Answer.{main_answer, onto}
use Rattle.dp_check.proofs.AnswerLemmas.{onto-all, further, further_refused, loop_end}
use Rattle.dp_check.proofs.RegionLemmas.{MainPlace, main_rest, main_one, main_step, main_answer-none, main_answer-more}
use Rattle.dp_check.proofs.region.main_statements.Goals as goal

pub loop-s-init : goal.loop-s-init
loop-s-init c =
    let p = c.args.place.now in let all = c.args.all.now in
    sym (onto-all (main_answer p 1 all)) ∙ ap (λ d. onto d (main_answer p 1 all)) (sym c.new-done.ensures)

pub returns : goal.returns
returns c =
    loop_end main_rest c.args.all.now c.loop-s.s-index (record { place = c.loop-s.place; region = c.loop-s.number }) c.loop-s.done c.loop-s.invariant
    (omega arith) (main_answer-none (record { place = c.loop-s.place; region = c.loop-s.number }))

pub loop-s-preserved : goal.loop-s-preserved
loop-s-preserved c =
    let all = c.args.all.now in let i = c.loop-s.s-index in
    let m : MainPlace = record { place = c.loop-s.place; region = c.loop-s.number } in
    let below : c.loop-s.s-index < length c.args.all.now = omega arith in let rest = drop (i + 1) all in
    further main_rest main_one main_step main_answer-more all i m c.loop-s.done _ c.loop-s.invariant c.s-item.result below c.s-item.is
    (c.top.new.done ++ c.in_ok-last.last ∷ []) c.in_ok-last.ensures.value (record { place = c.top.new.place; region = c.in_ok-number.number })
    (λ j. record { place = c.in_ok-last.ensures.place j; region = c.in_ok-number.ensures.value j })
    ∙ ap (λ d. onto d (main_answer c.top.new.place c.in_ok-number.number rest)) (sym c.in_ok-push.ensures.ok)

pub returns-in_err-last : goal.returns-in_err-last
returns-in_err-last c =
    let all = c.args.all.now in let i = c.loop-s.s-index in
    let m : MainPlace = record { place = c.loop-s.place; region = c.loop-s.number } in
    let below : c.loop-s.s-index < length c.args.all.now = omega arith in
    let refused = further_refused main_rest main_one main_step main_answer-more all i m c.loop-s.done _ c.loop-s.invariant c.s-item.result below c.s-item.is in
    first_of (search rules, grind (arith, common_steps))
