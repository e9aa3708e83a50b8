use Rattle.std.proofs.Common.{◌≡◌, ◌+◌, ◌<◌, ◌∷◌, [], ◌++◌, take, drop, length, List, OnOk, Err, refl, sym, ap, subst, ◌∙◌, rules, arith}
use Rattle.std.proofs.lemmas.Grind.{common_steps}
use Rattle.dp_tree.specs.declared.Stmt.TheVariants as code
use Rattle.dp_tree.specs.declared.raw.RawExpr.{RawExpr}
use Rattle.dp_tree.specs.declared.raw.RawStmt.{RawStmt}
use Rattle.dp_tree.specs.declared.raw.RawStmt.TheVariants as raw
use Rattle.dp_check.specs.declared.fail.CheckFail.{CheckFail}
use Rattle.dp_check.specs.declared.place.Place.{Place}
use Rattle.dp_check.specs.Place.{place_after, place_after_all, parts_all, place_passed, sited}
use Rattle.dp_check.specs.Resolved.{next_site}
use Rattle.dp_check.specs.Answer.{GivesChecked, onto, with_last, expr_answer, statement_answer, block_answer, loop_answer}
use Rattle.dp_check.proofs.AnswerLemmas.{onto-all, gives_behind, further, further_refused, loop_end}
use Rattle.dp_check.proofs.PlaceLemmas.{passed-append, for_left, after-If, after-While, after-For}
use Rattle.dp_check.proofs.Weight.{weight, weight_all, weight-If, weight-While, weight-For, weight_item}
use Rattle.dp_check.proofs.StatementLemmas.{block_answer-none, block_answer-more}
use Rattle.dp_check.proofs.StatementLemmas as steps
use Rattle.dp_check.proofs.statement.+statements.Goals as goal
use Rattle.dp_room.proofs.LoopLemmas.{fold_more}

-- ---- statements without a block

pub statement-returns-in-Declare-clause-value : goal.statement-returns-in-Declare-clause-value
statement-returns-in-Declare-clause-value t c =
    let w = c.in-Declare in
    rw w.is (gives_behind (statement_answer c.args.place.now (raw.Declare w.line w.name w.value)) c.args.done.now c.declare.result
    (c.declare.ensures.value w.line))

pub statement-returns-in-Assign-clause-value : goal.statement-returns-in-Assign-clause-value
statement-returns-in-Assign-clause-value t c =
    let w = c.in-Assign in
    rw w.is (gives_behind (statement_answer c.args.place.now (raw.Assign w.name w.value)) c.args.done.now c.assign.result c.assign.ensures.value)

pub statement-returns-in-Store-clause-value : goal.statement-returns-in-Store-clause-value
statement-returns-in-Store-clause-value t c =
    let w = c.in-Store in
    rw w.is (gives_behind (statement_answer c.args.place.now (raw.Store w.name w.index w.value)) c.args.done.now c.store.result c.store.ensures.value)

pub statement-returns-in-Print-clause-value : goal.statement-returns-in-Print-clause-value
statement-returns-in-Print-clause-value t c =
    let w = c.in-Print in
    rw w.is (gives_behind (statement_answer c.args.place.now (raw.Print w.line w.value)) c.args.done.now c.print.result (c.print.ensures.value w.line))

pub statement-returns-in-Break-clause-value : goal.statement-returns-in-Break-clause-value
statement-returns-in-Break-clause-value t c =
    let w = c.in-Break in
    rw w.is (gives_behind (statement_answer c.args.place.now (raw.Break w.line w.cond)) c.args.done.now c.exit.result (c.exit.ensures.value w.line))

pub statement-returns-in-Call-clause-value : goal.statement-returns-in-Call-clause-value
statement-returns-in-Call-clause-value t c =
    let w = c.in-Call in
    rw w.is (subst (λ (args : List RawExpr). GivesChecked (onto c.args.done.now (statement_answer c.args.place.now (raw.Call w.name args)))
    (with_last c.args.done.now c.call.result)) c.as_slice.ensures
    (gives_behind (statement_answer c.args.place.now (raw.Call w.name c.as_slice.result.now)) c.args.done.now c.call.result c.call.ensures))

-- ---- statements with blocks

pub statement-conditional-requires : goal.statement-conditional-requires
statement-conditional-requires t c =
    let w = c.in-If in let e = ap weight w.is ∙ weight-If w.line w.cond w.then_part w.else_part in
    let one = ap weight_all c.as_slice-one.ensures in let two = ap weight_all c.as_slice-two.ensures in
    (omega (arith, c.decreases, e, one, two), tt)

pub statement-returns-in-If-clause-value : goal.statement-returns-in-If-clause-value
statement-returns-in-If-clause-value t c =
    let w = c.in-If in let one = c.as_slice-one in let two = c.as_slice-two in
    let is = (λ i. raw.If w.line w.cond (one.ensures i) (two.ensures i)) ∙ sym w.is in
    subst (λ (s : RawStmt). GivesChecked (onto c.args.done.now (statement_answer c.args.place.now s)) (with_last c.args.done.now c.conditional.result)) is
    (gives_behind (statement_answer c.args.place.now (raw.If w.line w.cond one.result.now two.result.now)) c.args.done.now c.conditional.result
    (c.conditional.ensures.value w.line))

pub statement-returns-in-If-clause-place : goal.statement-returns-in-If-clause-place
statement-returns-in-If-clause-place t c =
    let w = c.in-If in let one = c.as_slice-one in let two = c.as_slice-two in let p = c.args.place.now in
    let is = (λ i. raw.If w.line w.cond (one.ensures i) (two.ensures i)) ∙ sym w.is in
    subst (λ (q : Place). OnOk c.conditional.result (c.conditional.new.place ≡ q)) (sym (after-If p w.line w.cond one.result.now two.result.now)
    ∙ ap (place_after p) is) c.conditional.ensures.place

pub statement-repeated-requires : goal.statement-repeated-requires
statement-repeated-requires t c =
    let w = c.in-While in
    let e = ap weight w.is ∙ weight-While w.line w.marked w.cond w.body in let inside = ap weight_all c.as_slice-in-While.ensures in
    (omega (arith, c.decreases, e, inside), tt)

pub statement-returns-in-While-clause-value : goal.statement-returns-in-While-clause-value
statement-returns-in-While-clause-value t c =
    let w = c.in-While in let slice = c.as_slice-in-While in
    let is = ap (raw.While w.line w.marked w.cond) slice.ensures ∙ sym w.is in
    subst (λ (s : RawStmt). GivesChecked (onto c.args.done.now (statement_answer c.args.place.now s)) (with_last c.args.done.now c.repeated.result)) is
    (gives_behind (statement_answer c.args.place.now (raw.While w.line w.marked w.cond slice.result.now)) c.args.done.now c.repeated.result
    (c.repeated.ensures.value w.line w.marked))

pub statement-returns-in-While-clause-place : goal.statement-returns-in-While-clause-place
statement-returns-in-While-clause-place t c =
    let w = c.in-While in let slice = c.as_slice-in-While in let p = c.args.place.now in
    let is = ap (raw.While w.line w.marked w.cond) slice.ensures ∙ sym w.is in
    subst (λ (q : Place). OnOk c.repeated.result (c.repeated.new.place ≡ q)) (sym (after-While p w.line w.marked w.cond slice.result.now)
    ∙ ap (place_after p) is) c.repeated.ensures.place

pub statement-counted-requires : goal.statement-counted-requires
statement-counted-requires t c =
    let w = c.in-For in let e = ap weight w.is ∙ weight-For w.line w.marked w.first w.cond w.step w.body in
    let first = ap weight_all c.as_slice-first.ensures in let step = ap weight_all c.as_slice-step.ensures in
    let body = ap weight_all c.as_slice-body.ensures in
    (omega (arith, c.decreases, e, first, step, body), tt)

pub statement-returns-in-For-clause-value : goal.statement-returns-in-For-clause-value
statement-returns-in-For-clause-value t c =
    let w = c.in-For in
    let is = (λ i. raw.For w.line w.marked (c.as_slice-first.ensures i) w.cond (c.as_slice-step.ensures i) (c.as_slice-body.ensures i)) ∙ sym w.is in
    subst (λ (s : RawStmt). GivesChecked (onto c.args.done.now (statement_answer c.args.place.now s)) (with_last c.counted.new.done c.counted.result)) is
    (c.counted.ensures.value w.line w.marked)

pub statement-returns-in-For-clause-place : goal.statement-returns-in-For-clause-place
statement-returns-in-For-clause-place t c =
    let w = c.in-For in
    let is = (λ i. raw.For w.line w.marked (c.as_slice-first.ensures i) w.cond (c.as_slice-step.ensures i) (c.as_slice-body.ensures i)) ∙ sym w.is in
    subst (λ (s : RawStmt). OnOk c.counted.result (c.counted.new.place ≡ place_after c.args.place.now s)) is (c.counted.ensures.place w.line w.marked)

-- ---- `for`

pub counted-returns-in_err-statements-clause-value : goal.counted-returns-in_err-statements-clause-value
counted-returns-in_err-statements-clause-value t c = λ line marked.
    let p = c.args.place.now in let done = c.args.done.now in let first = c.args.first.now in let cond = c.args.cond.now in let step = c.args.step.now in
    let body = c.args.body.now in
    let refused : (e : CheckFail) → onto done (block_answer p first) ≡ Err e →
    onto done (statement_answer p (raw.For line marked first cond step body)) ≡ Err e = λ e h.
    steps.for_refused_at_first p done line marked first cond step body e h in
    first_of (search rules, grind (arith, common_steps))

pub counted-returns-in_err-site-clause-value : goal.counted-returns-in_err-site-clause-value
counted-returns-in_err-site-clause-value t c = λ line marked.
    let p = c.args.place.now in let done = c.args.done.now in let first = c.args.first.now in let cond = c.args.cond.now in let step = c.args.step.now in
    let body = c.args.body.now in
    let start = c.in_ok-statements.ensures.place in
    let refused : (e : CheckFail) → expr_answer c.statements.new.place.names cond ≡ Err e →
    onto done (statement_answer p (raw.For line marked first cond step body)) ≡ Err e = λ e h.
    steps.for_refused_at_cond p done line marked first cond step body _ c.in_ok-statements.ensures.value e ((λ i. expr_answer (sym start i).names cond) ∙ h) in
    first_of (search rules, grind (arith, common_steps))

pub counted-returns-in_err-body-clause-value : goal.counted-returns-in_err-body-clause-value
counted-returns-in_err-body-clause-value t c = λ line marked.
    let p = c.args.place.now in let done = c.args.done.now in let first = c.args.first.now in let cond = c.args.cond.now in let step = c.args.step.now in
    let body = c.args.body.now in
    let start = c.in_ok-statements.ensures.place in
    let tested = (λ i. expr_answer (sym start i).names cond) ∙ c.in_ok-site.ensures.expr in
    let behind = c.in_ok-site.ensures.place ∙ (λ i. sited (start i)) in
    let refused : (e : CheckFail) → loop_answer c.evaluation.new.place step body ≡ Err e →
    onto done (statement_answer p (raw.For line marked first cond step body)) ≡ Err e = λ e h.
    steps.for_refused_at_body p done line marked first cond step body _ c.in_ok-statements.ensures.value c.in_ok-site.cond tested e
    ((λ i. loop_answer (sym behind i) step body) ∙ h) in
    first_of (search rules, grind (arith, common_steps))

pub counted-returns-clause-value : goal.counted-returns-clause-value
counted-returns-clause-value t c = λ line marked.
    let p = c.args.place.now in let done = c.args.done.now in let first = c.args.first.now in let cond = c.args.cond.now in let step = c.args.step.now in
    let body = c.args.body.now in
    let start = c.in_ok-statements.ensures.place in
    let tested = (λ i. expr_answer (sym start i).names cond) ∙ c.in_ok-site.ensures.expr in
    let behind = c.in_ok-site.ensures.place ∙ (λ i. sited (start i)) in
    let inside = (λ i. loop_answer (sym behind i) step body) ∙ c.in_ok-body.ensures.value in
    let site = c.in_ok-site.ensures.site ∙ (λ i. next_site (start i)) in
    steps.for_given p done line marked first cond step body _ c.in_ok-statements.ensures.value c.in_ok-site.cond tested c.in_ok-body.body inside
    ∙ (λ i. Rattle.std.proofs.Common.Ok (c.statements.new.done ++ code.While (sym site i) c.in_ok-site.cond c.in_ok-body.body ∷ []))

pub counted-returns-clause-place : goal.counted-returns-clause-place
counted-returns-clause-place t c = λ line marked.
    let p = c.args.place.now in let first = c.args.first.now in let step = c.args.step.now in let body = c.args.body.now in
    let behind = c.in_ok-site.ensures.place ∙ (λ i. sited (c.in_ok-statements.ensures.place i)) in
    let ended = c.in_ok-body.ensures.place ∙ (λ i. place_passed (behind i) (parts_all body ++ parts_all step)) in
    let kept = c.keep.ensures ∙ (λ i. take (c.len-count.ensures i) (ended i).names) in
    (λ i. record { names = kept i; variable = (ended i).variable; site = (ended i).site }) ∙ for_left p first line (parts_all body ++ parts_all step)
    ∙ sym (after-For p line marked first c.args.cond.now step body)

-- ---- the body and the step of a loop

pub looped-returns-clause-place : goal.looped-returns-clause-place
looped-returns-clause-place t c =
    let p = c.args.place.now in let step = c.args.step.now in let body = c.args.body.now in
    let body_end = c.in_ok-inside.ensures.place ∙ ap (λ q. place_passed q (parts_all body)) c.in_ok-last.ensures.place in
    c.in_ok-pass_all.ensures.place ∙ ap (λ q. place_passed q (parts_all step)) body_end ∙ sym (passed-append p (parts_all body) (parts_all step))

-- ---- several statements

pub statements-statement-requires : goal.statements-statement-requires
statements-statement-requires t c =
    let all = c.args.all.now in let below : c.loop-s.s-index < length c.args.all.now = omega arith in
    let here = ap weight c.s-item.is in let less = weight_item all c.loop-s.s-index c.s-item.result below in
    (omega (arith, c.decreases, here, less), tt)

pub statements-returns-in_err-last-clause-value : goal.statements-returns-in_err-last-clause-value
statements-returns-in_err-last-clause-value t c =
    let below : c.loop-s.s-index < length c.args.all.now = omega arith in
    let refused = further_refused block_answer statement_answer place_after block_answer-more c.args.all.now c.loop-s.s-index c.loop-s.place c.loop-s.done _
    c.loop-s.invariant.0 c.s-item.result below c.s-item.is in
    first_of (search rules, grind (arith, common_steps))

pub statements-loop-s-preserved : goal.statements-loop-s-preserved
statements-loop-s-preserved t c =
    let all = c.args.all.now in let i = c.loop-s.s-index in let p = c.loop-s.place in
    let below : c.loop-s.s-index < length c.args.all.now = omega arith in let rest = drop (i + 1) all in (
      further block_answer statement_answer place_after block_answer-more all i p c.loop-s.done _ c.loop-s.invariant.0 c.s-item.result below c.s-item.is
          (c.statement.new.done ++ c.in_ok-last.last ∷ []) c.in_ok-last.ensures.value c.statement.new.place c.in_ok-last.ensures.place
          ∙ ap (λ d. onto d (block_answer c.statement.new.place rest)) (sym c.in_ok-push.ensures.ok),
      fold_more place_after_all place_after (λ q s others. refl) all i p _ c.loop-s.invariant.1 c.s-item.result below c.s-item.is c.statement.new.place
          c.in_ok-last.ensures.place,
    )

pub statements-returns-clause-value : goal.statements-returns-clause-value
statements-returns-clause-value t c =
    loop_end block_answer c.args.all.now c.loop-s.s-index c.loop-s.place c.loop-s.done c.loop-s.invariant.0 (omega arith) (block_answer-none c.loop-s.place)

pub block-returns-in_err-statements-clause-value : goal.block-returns-in_err-statements-clause-value
block-returns-in_err-statements-clause-value t c =
    let answer = block_answer c.args.place.now c.args.all.now in
    let refused : (e : CheckFail) → onto c.new-done.result answer ≡ Err e → answer ≡ Err e = λ e h. sym (onto-all answer)
    ∙ ap (λ d. onto d answer) (sym c.new-done.ensures) ∙ h in
    first_of (search rules, grind (arith, common_steps))

pub block-returns-clause-value : goal.block-returns-clause-value
block-returns-clause-value t c =
    let answer = block_answer c.args.place.now c.args.all.now in
    sym (onto-all answer) ∙ ap (λ d. onto d answer) (sym c.new-done.ensures) ∙ c.in_ok-statements.ensures.value

-- ---- the step of a loop

pub step_of-returns-in_err-last-clause-value : goal.step_of-returns-in_err-last-clause-value
step_of-returns-in_err-last-clause-value t c =
    let step = c.args.step.now in let q = place_passed c.args.place.now (parts_all c.args.body.now) in
    let refused : (e : CheckFail) → block_answer c.pass_all.new.place step ≡ Err e → block_answer q step ≡ Err e = λ e h. ap (λ r. block_answer r step)
    (sym c.in_ok-pass_all.ensures.place) ∙ h in
    first_of (search rules, grind (arith, common_steps))

pub step_of-returns-clause-value : goal.step_of-returns-clause-value
step_of-returns-clause-value t c = ap (λ r. block_answer r c.args.step.now) (sym c.in_ok-pass_all.ensures.place) ∙ c.in_ok-last.ensures.value

pub step_of-returns-clause-place : goal.step_of-returns-clause-place
step_of-returns-clause-place t c =
    let ended = c.in_ok-last.ensures.place ∙ ap (λ q. place_passed q (parts_all c.args.step.now)) c.in_ok-pass_all.ensures.place in
    c.renumber.ensures ∙ (λ i. record { names = (ended i).names; variable = (c.numbers-start.ensures i).variable; site = (c.numbers-start.ensures i).site })
