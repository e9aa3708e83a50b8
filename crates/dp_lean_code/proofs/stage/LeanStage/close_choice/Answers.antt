use Rattle.std.proofs.Common.{◌∙◌, ap}
use Rattle.std.specs.Prelude.{slice_set}
use Rattle.dp_lean_code.specs.declared.LeanOp.{LeanOp}
use Rattle.dp_lean_code.specs.LeanCode as spec
use Rattle.dp_lean_code.proofs.Closing.{no_else, with_else}
use Rattle.dp_lean_code.proofs.stage.LeanStage.close_choice.Goals as goal

pub returns-then-other-end : goal.returns-then-other-end
returns-then-other-end c = λ base tc ec condition passing all_is fork_is jump_is.
    no_else base tc condition passing c.args.fork c.args.jump fork_is jump_is (λ n. spec.branch c.args.self.program.now c.args.self.plan.now
    c.args.self.number c.args.site n) ec
    _ _ _ _ all_is c.in_ok-end.ensures.value c.if-other-end.true c.truncate.ensures
    (c.set.ensures ∙ ap (λ (o : LeanOp). slice_set c.truncate.new.self c.args.fork o) c.branch-self.ensures)

pub returns-else-other-end : goal.returns-else-other-end
returns-else-other-end c = λ base tc ec condition passing all_is fork_is jump_is.
    with_else base tc condition passing c.args.fork c.args.jump fork_is jump_is (λ n. spec.branch c.args.self.program.now c.args.self.plan.now
    c.args.self.number c.args.site n) ec
    _ _ _ _ all_is c.in_ok-end.ensures.value c.if-other-end.false c.set-else-other-end.ensures
    (c.set-else-other-end-2.ensures ∙ ap (λ (o : LeanOp). slice_set c.set-else-other-end.new.self c.args.fork o) c.branch-self-else-other-end.ensures)
