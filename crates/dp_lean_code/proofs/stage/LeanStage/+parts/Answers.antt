use Rattle.std.proofs.Common.{◌≡◌, ◌∙◌, [], ◌++◌, ◌+◌, ◌-◌, zero, suc, take, ap, sym, subst, length, drop, List, Some, OnOk, arith}
use Rattle.std.proofs.Math.ListN.{drop_of_length-le}
use Rattle.dp_base.specs.declared.SiteId.{SiteId}
use Rattle.dp_tree.specs.declared.Stmt.{Stmt}
use Rattle.dp_tree.specs.declared.Stmt.TheVariants as tree
use Rattle.dp_lean_code.specs.declared.LeanOp.{LeanOp}
use Rattle.dp_lean_code.specs.steps.Looked.{known_of}
use Rattle.dp_lean_code.specs.steps.Walked.{choice_part, reached_loop, block_part, part, parts}
use Rattle.dp_lean_code.proofs.Appended.{body_shape, jump_at, front_shape, choice_shape}
use Rattle.dp_lean_code.proofs.WalkForms.{code, part-Assign, part-Store, part-Print, part-Break, part-Call, part-While, part-Region}
use Rattle.dp_lean_code.proofs.WalkAppended.{choice_filled, loop_filled, if_reached, if_taken, if_passed, if_dropped, loop_reached, loop_dropped, nothing_more}
use Rattle.dp_lean_code.proofs.WalkAppended.{take_drop, one_passed, one_more, block_more, all_done}
use Rattle.dp_lean_code.proofs.stage.LeanStage.+parts.Goals.{statements-then-count-eq0+in_ok-statement, statements-else-count-eq0+in_ok-block}
use Rattle.dp_lean_code.proofs.stage.LeanStage.+parts.Goals as goal

pub statement-returns-in-Assign : goal.statement-returns-in-Assign
statement-returns-in-Assign t c =
    let p = c.args.self.program.now in let plan = c.args.self.plan.now in let s = c.args.self.number in let old = c.args.ops.now in
    let k = known_of p plan c.args.self.tables.now s in
    subst (λ (xs : List LeanOp). OnOk c.kept_assignment.result (c.kept_assignment.new.ops ≡ old ++ xs)) (sym (part-Assign p plan s k _ _ _ (length old))
    ∙ ap (λ (x : Stmt). part p plan s k x (length old)) (sym c.in-Assign.is)) c.kept_assignment.ensures

pub statement-returns-in-Store : goal.statement-returns-in-Store
statement-returns-in-Store t c =
    let p = c.args.self.program.now in let plan = c.args.self.plan.now in let s = c.args.self.number in let old = c.args.ops.now in
    let k = known_of p plan c.args.self.tables.now s in
    subst (λ (xs : List LeanOp). OnOk c.kept_store.result (c.kept_store.new.ops ≡ old ++ xs)) (sym (part-Store p plan s k _ _ _ _ (length old))
    ∙ ap (λ (x : Stmt). part p plan s k x (length old)) (sym c.in-Store.is)) c.kept_store.ensures

pub statement-returns-in-Print : goal.statement-returns-in-Print
statement-returns-in-Print t c =
    let p = c.args.self.program.now in let plan = c.args.self.plan.now in let s = c.args.self.number in let old = c.args.ops.now in
    let k = known_of p plan c.args.self.tables.now s in
    subst (λ (xs : List LeanOp). OnOk c.kept_print.result (c.kept_print.new.ops ≡ old ++ xs)) (sym (part-Print p plan s k _ _ (length old))
    ∙ ap (λ (x : Stmt). part p plan s k x (length old)) (sym c.in-Print.is)) c.kept_print.ensures

pub statement-returns-in-Break : goal.statement-returns-in-Break
statement-returns-in-Break t c =
    let p = c.args.self.program.now in let plan = c.args.self.plan.now in let s = c.args.self.number in let old = c.args.ops.now in
    let k = known_of p plan c.args.self.tables.now s in
    subst (λ (xs : List LeanOp). OnOk c.kept_exit.result (c.kept_exit.new.ops ≡ old ++ xs)) (sym (part-Break p plan s k _ _ (length old))
    ∙ ap (λ (x : Stmt). part p plan s k x (length old)) (sym c.in-Break.is)) c.kept_exit.ensures

pub statement-returns-in-Call : goal.statement-returns-in-Call
statement-returns-in-Call t c =
    let p = c.args.self.program.now in let plan = c.args.self.plan.now in let s = c.args.self.number in let old = c.args.ops.now in
    let k = known_of p plan c.args.self.tables.now s in
    nothing_more p plan s k old _ _ c.in-Call.is (part-Call p plan s k _ _ _ (length old))

pub statement-returns-in-false-None : goal.statement-returns-in-false-None
statement-returns-in-false-None t c =
    let p = c.args.self.program.now in let plan = c.args.self.plan.now in let s = c.args.self.number in let old = c.args.ops.now in
    let k = known_of p plan c.args.self.tables.now s in
    nothing_more p plan s k old _ _ c.in-If.is (if_dropped p plan s k _ _ _ _ (length old) (sym c.in-false-None.ensures) (sym c.in-false-None.ensures'))

pub statement-returns-in-false-Some-true : goal.statement-returns-in-false-Some-true
statement-returns-in-false-Some-true t c =
    let p = c.args.self.program.now in let plan = c.args.self.plan.now in let s = c.args.self.number in let old = c.args.ops.now in
    let k = known_of p plan c.args.self.tables.now s in
    subst (λ (xs : List LeanOp). OnOk c.statements-in-false-Some-true.result (c.statements-in-false-Some-true.new.ops ≡ old ++ xs))
    (ap (λ (ys : List Stmt). code p plan s k ys (length old)) c.as_slice-in-false-Some-true.ensures
    ∙ sym (if_taken p plan s k _ _ _ _ (length old) (sym c.in-false-Some-true.ensures) (sym c.in-false-Some-true.ensures'
    ∙ ap Some c.in-false-Some-true.field-0-test))
    ∙ ap (λ (x : Stmt). part p plan s k x (length old)) (sym c.in-If.is)) c.statements-in-false-Some-true.ensures

pub statement-returns-in-false-Some-false : goal.statement-returns-in-false-Some-false
statement-returns-in-false-Some-false t c =
    let p = c.args.self.program.now in let plan = c.args.self.plan.now in let s = c.args.self.number in let old = c.args.ops.now in
    let k = known_of p plan c.args.self.tables.now s in
    subst (λ (xs : List LeanOp). OnOk c.statements-in-false-Some-false.result (c.statements-in-false-Some-false.new.ops ≡ old ++ xs))
    (ap (λ (ys : List Stmt). code p plan s k ys (length old)) c.as_slice-in-false-Some-false.ensures
    ∙ sym (if_passed p plan s k _ _ _ _ (length old) (sym c.in-false-Some-false.ensures) (sym c.in-false-Some-false.ensures'
    ∙ ap Some c.in-false-Some-false.field-0-test))
    ∙ ap (λ (x : Stmt). part p plan s k x (length old)) (sym c.in-If.is)) c.statements-in-false-Some-false.ensures

pub statement-returns-in-While : goal.statement-returns-in-While
statement-returns-in-While t c =
    let p = c.args.self.program.now in let plan = c.args.self.plan.now in let s = c.args.self.number in let old = c.args.ops.now in
    let k = known_of p plan c.args.self.tables.now s in
    subst (λ (xs : List LeanOp). OnOk c.repetition.result (c.repetition.new.ops ≡ old ++ xs))
    (ap (λ (ys : List Stmt). reached_loop p plan s k c.in-While.site c.in-While.cond (code p plan s k ys) (length old)) c.as_slice-in-While.ensures
    ∙ sym (part-While p plan s k _ _ _ (length old)) ∙ ap (λ (x : Stmt). part p plan s k x (length old)) (sym c.in-While.is)) c.repetition.ensures

pub statement-returns-in-Region : goal.statement-returns-in-Region
statement-returns-in-Region t c =
    let p = c.args.self.program.now in let plan = c.args.self.plan.now in let s = c.args.self.number in let old = c.args.ops.now in
    let k = known_of p plan c.args.self.tables.now s in
    subst (λ (xs : List LeanOp). OnOk c.turn.result (c.turn.new.ops ≡ old ++ xs))
    (ap (λ (ys : List Stmt). choice_part p plan s k c.in-Region.site c.in-Region.cond (code p plan s k ys) (λ j. []) (length old)) c.as_slice-in-Region.ensures
    ∙ sym (part-Region p plan s k _ _ _ _ (length old)) ∙ ap (λ (x : Stmt). part p plan s k x (length old)) (sym c.in-Region.is)) c.turn.ensures

pub turn-returns : goal.turn-returns
turn-returns t c =
    let p = c.args.self.program.now in let plan = c.args.self.plan.now in let s = c.args.self.number in let old = c.args.ops.now in
    let k = known_of p plan c.args.self.tables.now s in let first = c.in_ok-fork.ensures in
    subst (λ (xs : List LeanOp). OnOk c.end_choice.result (c.end_choice.new.ops ≡ xs))
    (choice_filled p plan s k c.args.site c.args.cond.now old _ first.fork (code p plan s k c.args.body.now) (λ j. []))
    (c.end_choice.ensures _ _ _ _ _ _ first.more c.len-start.ensures first.fork first.jump)

pub statement-returns-in_ok-statements-in-true-default : goal.statement-returns-in_ok-statements-in-true-default
statement-returns-in_ok-statements-in-true-default t c =
    let p = c.args.self.program.now in let plan = c.args.self.plan.now in let s = c.args.self.number in let old = c.args.ops.now in
    let k = known_of p plan c.args.self.tables.now s in
    let site = c.in-If.site in let cond = c.in-If.cond in let first = c.in_ok-fork-in-true-default.ensures in
    let is = c.in-If.is ∙ (λ i. tree.If site cond (sym c.as_slice.ensures i) (sym c.as_slice-in-true-default.ensures i)) in
    subst (λ (xs : List LeanOp). OnOk c.end_choice.result (c.end_choice.new.ops ≡ xs))
    (choice_filled p plan s k site cond old _ first.fork (code p plan s k _) (code p plan s k _)
    ∙ ap (λ (xs : List LeanOp). old ++ xs) (sym (if_reached p plan s k site cond _ _ (length old) (sym c.in-true-default.ensures)))
    ∙ ap (λ (x : Stmt). old ++ part p plan s k x (length old)) (sym is))
    (c.end_choice.ensures _ _ _ _ _ _ (choice_shape p plan s site cond old _ first.fork _ (code p plan s k _) _ _ _ _ first.more
    c.in_ok-statements-in-true-default.ensures) c.len-start.ensures first.fork first.jump)

pub first_branch-returns-clause-jump : goal.first_branch-returns-clause-jump
first_branch-returns-clause-jump t c =
    let p = c.args.self.program.now in let plan = c.args.self.plan.now in let s = c.args.self.number in let old = c.args.ops.now in
    let k = known_of p plan c.args.self.tables.now s in
    jump_at p plan s c.args.site c.args.cond.now old c.in_ok-fork.fork c.in_ok-fork.ensures.at _ _ c.in_ok-fork.ensures.more
    (code p plan s k c.args.then_part.now) _ _ c.in_ok-statements.ensures c.in_ok-jump.ensures.value

pub first_branch-returns-clause-more : goal.first_branch-returns-clause-more
first_branch-returns-clause-more t c =
    let p = c.args.self.program.now in let plan = c.args.self.plan.now in let s = c.args.self.number in let old = c.args.ops.now in
    let k = known_of p plan c.args.self.tables.now s in
    front_shape p plan s c.args.site c.args.cond.now old c.in_ok-fork.fork c.in_ok-fork.ensures.at _ _ c.in_ok-fork.ensures.more
    (code p plan s k c.args.then_part.now) _ _ _ c.in_ok-statements.ensures c.in_ok-push.ensures.ok

pub repetition-returns-then-not-reaches : goal.repetition-returns-then-not-reaches
repetition-returns-then-not-reaches t c =
    let p = c.args.self.program.now in let plan = c.args.self.plan.now in let s = c.args.self.number in let old = c.args.ops.now in
    let k = known_of p plan c.args.self.tables.now s in
    loop_dropped p plan s k c.args.site c.args.cond.now (code p plan s k c.args.body.now) old (sym c.reaches.ensures ∙ c.if-not-reaches.true)

pub repetition-returns : goal.repetition-returns
repetition-returns t c =
    let p = c.args.self.program.now in let plan = c.args.self.plan.now in let s = c.args.self.number in let old = c.args.ops.now in
    let k = known_of p plan c.args.self.tables.now s in
    let at = c.in_ok-fork.ensures.at in let a = code p plan s k c.args.body.now in
    subst (λ (xs : List LeanOp). OnOk c.end_loop.result (c.end_loop.new.ops ≡ xs))
    (loop_filled p plan s k c.args.site c.args.cond.now old c.in_ok-fork.fork at a c.in_ok-start.start c.in_ok-start.ensures.value
    ∙ ap (λ (xs : List LeanOp). old ++ xs) (loop_reached p plan s k c.args.site c.args.cond.now a (length old) (sym c.reaches.ensures
    ∙ c.if-not-reaches.false)))
    (c.end_loop.ensures _ _ _ _ (body_shape p plan s c.args.site c.args.cond.now old c.in_ok-fork.fork at _ _ c.in_ok-fork.ensures.more a _
    c.in_ok-statements.ensures) c.in_ok-start.ensures.value at)

pub statements-loop-place-preserved-then-left-gt0 : goal.statements-loop-place-preserved-then-left-gt0
statements-loop-place-preserved-then-left-gt0 t c =
    let p = c.args.self.program.now in let plan = c.args.self.plan.now in let s = c.args.self.number in let old = c.args.ops.now in
    let k = known_of p plan c.args.self.tables.now s in
    let all = c.args.all.now in let i = c.loop-place.place in let x = c.index-all-place.result in let ops = c.loop-place.ops in
    let whole = old ++ parts p plan s k zero all (length old) in
    let less : c.loop-place.left ≡ suc (c.loop-place.left - 1) = omega arith in
    one_passed p plan s k all i x (omega arith) c.index-all-place.is ops whole c.loop-place.left (c.loop-place.left - 1) less c.loop-place.invariant

pub statements-loop-place-preserved : goal.statements-loop-place-preserved
statements-loop-place-preserved t c =
    let p = c.args.self.program.now in let plan = c.args.self.plan.now in let s = c.args.self.number in let old = c.args.ops.now in
    let k = known_of p plan c.args.self.tables.now s in
    let all = c.args.all.now in let i = c.loop-place.place in let x = c.index-all-place.result in let ops = c.loop-place.ops in
    let whole = old ++ parts p plan s k zero all (length old) in
    let none : c.loop-place.left ≡ 0 = omega arith in
    let kept = ap (λ n. ops ++ parts p plan s k n (drop i all) (length ops)) (sym none) ∙ c.loop-place.invariant in
    let counted = sym (c.count-count.ensures ∙ ap (λ (q : SiteId). k.count q.0) c.site_of-site.ensures) in
    elim c.if-count-eq0.branch [
      | statements-then-count-eq0+in_ok-statement w ↦
          ap (λ n. c.if-count-eq0.ops ++ parts p plan s k n (drop (i + 1) all) (length c.if-count-eq0.ops)) (w.left-is ∙ none)
          ∙ one_more p plan s k all i x (omega arith) c.index-all-place.is ops whole kept c.if-count-eq0.ops (counted ∙ w.if-count-eq0.true) (w.ops-is
          ∙ w.in_ok-statement.ensures)
      | statements-else-count-eq0+in_ok-block w ↦
          let some : c.count-count.result ≡ suc (c.count-count.result - 1) = omega arith in
          ap (λ n. c.if-count-eq0.ops ++ parts p plan s k n (drop (i + 1) all) (length c.if-count-eq0.ops)) w.left-is
          ∙ block_more p plan s k all i x (omega arith) c.index-all-place.is ops whole kept c.if-count-eq0.ops c.count-count.result
          (c.count-count.result - 1) counted some
          (w.ops-is ∙ w.in_ok-block.ensures ∙ ap (λ (xs : List Stmt). ops ++ block_part p plan s k c.site_of-site.result (take c.count-count.result xs)
          (length ops)) (take_drop all i)
          ∙ ap (λ (q : SiteId). ops ++ block_part p plan s k q (take c.count-count.result (drop i all)) (length ops)) c.site_of-site.ensures)
    ]

pub statements-returns : goal.statements-returns
statements-returns t c =
    let p = c.args.self.program.now in let plan = c.args.self.plan.now in let s = c.args.self.number in let old = c.args.ops.now in
    let k = known_of p plan c.args.self.tables.now s in
    all_done p plan s k c.loop-place.left (drop c.loop-place.place c.args.all.now) c.loop-place.ops (old ++ parts p plan s k zero c.args.all.now (length old))
    c.loop-place.invariant
    (drop_of_length-le c.args.all.now (omega arith))
