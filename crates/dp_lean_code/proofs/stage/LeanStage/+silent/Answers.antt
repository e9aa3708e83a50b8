use Rattle.std.proofs.Common.{◌≡◌, ◌∙◌, ◌++◌, ap, sym, subst, length, drop, List, OnOk, arith}
use Rattle.std.proofs.Math.ListN.{drop_of_length-le}
use Rattle.dp_tree.specs.declared.Stmt.{Stmt}
use Rattle.dp_tree.specs.declared.Stmt.TheVariants as tree
use Rattle.dp_lean_code.specs.declared.LeanOp.{LeanOp}
use Rattle.dp_lean_code.specs.LeanCode.{choice, repetition, branch}
use Rattle.dp_lean_code.specs.steps.Walked.{tested}
use Rattle.dp_lean_code.specs.steps.Silenced.{silent_part, silent_parts, silent_while}
use Rattle.dp_lean_code.proofs.Appended.{behind_test, body_shape, jump_at, front_shape, choice_shape}
use Rattle.dp_lean_code.proofs.SilentForms.{silent-Assign, silent-Store, silent-Print, silent-Break, silent-Region, silent-Call, silent-If, silent-While}
use Rattle.dp_lean_code.proofs.SilentForms.{one_more, all_done, nothing_more}
use Rattle.dp_lean_code.proofs.stage.LeanStage.+silent.Goals as goal

pub silent_statement-returns-in-Assign : goal.silent_statement-returns-in-Assign
silent_statement-returns-in-Assign t c =
    let p = c.args.self.program.now in let plan = c.args.self.plan.now in let s = c.args.self.number in let old = c.args.ops.now in
    subst (λ (xs : List LeanOp). OnOk c.assignment.result (c.assignment.new.ops ≡ old ++ xs)) (sym (silent-Assign p plan s _ _ _ (length old))
    ∙ ap (λ (x : Stmt). silent_part p plan s x (length old)) (sym c.in-Assign.is)) c.assignment.ensures

pub silent_statement-returns-in-Store : goal.silent_statement-returns-in-Store
silent_statement-returns-in-Store t c =
    let p = c.args.self.program.now in let plan = c.args.self.plan.now in let s = c.args.self.number in let old = c.args.ops.now in
    subst (λ (xs : List LeanOp). OnOk c.store.result (c.store.new.ops ≡ old ++ xs)) (sym (silent-Store p plan s _ _ _ _ (length old))
    ∙ ap (λ (x : Stmt). silent_part p plan s x (length old)) (sym c.in-Store.is)) c.store.ensures

pub silent_statement-returns-in-Print : goal.silent_statement-returns-in-Print
silent_statement-returns-in-Print t c =
    let p = c.args.self.program.now in let plan = c.args.self.plan.now in let s = c.args.self.number in let old = c.args.ops.now in
    subst (λ (xs : List LeanOp). OnOk c.print.result (c.print.new.ops ≡ old ++ xs)) (sym (silent-Print p plan s _ _ (length old))
    ∙ ap (λ (x : Stmt). silent_part p plan s x (length old)) (sym c.in-Print.is)) c.print.ensures

pub silent_statement-returns-in-Break : goal.silent_statement-returns-in-Break
silent_statement-returns-in-Break t c =
    let p = c.args.self.program.now in let plan = c.args.self.plan.now in let s = c.args.self.number in let old = c.args.ops.now in
    subst (λ (xs : List LeanOp). OnOk c.exit.result (c.exit.new.ops ≡ old ++ xs)) (sym (silent-Break p plan s _ _ (length old))
    ∙ ap (λ (x : Stmt). silent_part p plan s x (length old)) (sym c.in-Break.is)) c.exit.ensures

pub silent_statement-returns-in-Region : goal.silent_statement-returns-in-Region
silent_statement-returns-in-Region t c =
    let p = c.args.self.program.now in let plan = c.args.self.plan.now in let s = c.args.self.number in let old = c.args.ops.now in
    nothing_more p plan s old _ _ c.in-Region.is (silent-Region p plan s _ _ _ _ (length old))

pub silent_statement-returns-in-Call : goal.silent_statement-returns-in-Call
silent_statement-returns-in-Call t c =
    let p = c.args.self.program.now in let plan = c.args.self.plan.now in let s = c.args.self.number in let old = c.args.ops.now in
    nothing_more p plan s old _ _ c.in-Call.is (silent-Call p plan s _ _ _ (length old))

pub silent_statement-returns-in-While : goal.silent_statement-returns-in-While
silent_statement-returns-in-While t c =
    let p = c.args.self.program.now in let plan = c.args.self.plan.now in let s = c.args.self.number in let old = c.args.ops.now in
    subst (λ (xs : List LeanOp). OnOk c.silent_loop.result (c.silent_loop.new.ops ≡ old ++ xs))
    (ap (λ (ys : List Stmt). silent_while p plan s c.in-While.site c.in-While.cond ys (length old)) c.as_slice-in-While.ensures
    ∙ sym (silent-While p plan s _ _ _ (length old)) ∙ ap (λ (x : Stmt). silent_part p plan s x (length old)) (sym c.in-While.is)) c.silent_loop.ensures

pub silent_statement-returns-in_ok-silent-in-If : goal.silent_statement-returns-in_ok-silent-in-If
silent_statement-returns-in_ok-silent-in-If t c =
    let p = c.args.self.program.now in let plan = c.args.self.plan.now in let s = c.args.self.number in let old = c.args.ops.now in
    let site = c.in-If.site in let cond = c.in-If.cond in
    let first = c.in_ok-fork-in-If.ensures in
    let is = c.in-If.is ∙ (λ i. tree.If site cond (sym c.as_slice.ensures i) (sym c.as_slice-in-If.ensures i)) in
    subst (λ (xs : List LeanOp). OnOk c.close_choice.result (c.close_choice.new.ops ≡ xs))
    (behind_test p plan s site cond old _ first.fork (choice (branch p plan s site) (silent_parts p plan s _) (silent_parts p plan s _))
    ∙ ap (λ (xs : List LeanOp). old ++ xs) (sym (silent-If p plan s site cond _ _ (length old)))
    ∙ ap (λ (x : Stmt). old ++ silent_part p plan s x (length old)) (sym is))
    (c.close_choice.ensures _ _ _ _ _ (choice_shape p plan s site cond old _ first.fork _ (silent_parts p plan s _) _ _ _ _ first.more
    c.in_ok-silent-in-If.ensures) first.fork first.jump)

pub silent_front-returns-clause-jump : goal.silent_front-returns-clause-jump
silent_front-returns-clause-jump t c =
    let p = c.args.self.program.now in let plan = c.args.self.plan.now in let s = c.args.self.number in let old = c.args.ops.now in
    jump_at p plan s c.args.site c.args.cond.now old c.in_ok-fork.fork c.in_ok-fork.ensures.at _ _ c.in_ok-fork.ensures.more
    (silent_parts p plan s c.args.then_part.now) _ _ c.in_ok-silent.ensures c.in_ok-jump.ensures.value

pub silent_front-returns-clause-more : goal.silent_front-returns-clause-more
silent_front-returns-clause-more t c =
    let p = c.args.self.program.now in let plan = c.args.self.plan.now in let s = c.args.self.number in let old = c.args.ops.now in
    front_shape p plan s c.args.site c.args.cond.now old c.in_ok-fork.fork c.in_ok-fork.ensures.at _ _ c.in_ok-fork.ensures.more
    (silent_parts p plan s c.args.then_part.now) _ _ _ c.in_ok-silent.ensures c.in_ok-push.ensures.ok

pub silent_loop-returns : goal.silent_loop-returns
silent_loop-returns t c =
    let p = c.args.self.program.now in let plan = c.args.self.plan.now in let s = c.args.self.number in let old = c.args.ops.now in
    let at = c.in_ok-fork.ensures.at in
    subst (λ (xs : List LeanOp). OnOk c.close_loop.result (c.close_loop.new.ops ≡ xs))
    (behind_test p plan s c.args.site c.args.cond.now old c.in_ok-fork.fork at (repetition c.in_ok-start.start (branch p plan s c.args.site)
    (silent_parts p plan s c.args.body.now))
    ∙ ap (λ n. old ++ tested p plan s c.args.site c.args.cond.now (repetition n (branch p plan s c.args.site) (silent_parts p plan s c.args.body.now))
    (length old)) c.in_ok-start.ensures.value)
    (c.close_loop.ensures _ _ _ (body_shape p plan s c.args.site c.args.cond.now old c.in_ok-fork.fork at _ _ c.in_ok-fork.ensures.more
    (silent_parts p plan s c.args.body.now) _ c.in_ok-silent.ensures) at)

pub silent-loop-statement-preserved : goal.silent-loop-statement-preserved
silent-loop-statement-preserved t c =
    let p = c.args.self.program.now in let plan = c.args.self.plan.now in let s = c.args.self.number in
    one_more p plan s c.args.all.now c.loop-statement.statement-index c.statement-item.result c.loop-statement.ops c.silent_statement.new.ops _
    c.loop-statement.invariant (omega arith) c.statement-item.is c.in_ok-silent_statement.ensures

pub silent-returns : goal.silent-returns
silent-returns t c =
    let p = c.args.self.program.now in let plan = c.args.self.plan.now in let s = c.args.self.number in let old = c.args.ops.now in
    all_done p plan s (drop c.loop-statement.statement-index c.args.all.now) c.loop-statement.ops (old ++ silent_parts p plan s c.args.all.now (length old))
    c.loop-statement.invariant
    (drop_of_length-le c.args.all.now (omega arith))
