use Rattle.dp_lean_code.specs.LeanCode as spec
use Rattle.dp_lean_code.proofs.Closing.{loop_closed}
use Rattle.dp_lean_code.proofs.stage.LeanStage.close_loop.Goals as goal

pub returns : goal.returns
returns c = λ base body condition all_is fork_is.
    loop_closed base body _ _ _ condition _ (λ n. spec.branch c.args.self.program.now c.args.self.plan.now c.args.self.number c.args.site n)
    c.args.fork c.args.start _
    all_is fork_is c.in_ok-push.ensures.ok c.in_ok-end.ensures.value c.branch-self.ensures c.set.ensures
