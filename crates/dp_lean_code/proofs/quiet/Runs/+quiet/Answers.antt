use Rattle.std.proofs.Common.{◌∙◌, sym, arith}
use Rattle.dp_lean_code.proofs.RunLists.{quiet_broken, quiet_on, quiet_all}
use Rattle.dp_lean_code.proofs.quiet.Runs.+quiet.Goals as goal

pub are_quiet-returns-then-not-is_quiet : goal.are_quiet-returns-then-not-is_quiet
are_quiet-returns-then-not-is_quiet t c =
    quiet_broken c.args.self.program.now c.args.self.plan.now c.args.stage c.args.all.now c.loop-statement.statement-index c.statement-item.result
    (omega arith) c.statement-item.is
    c.loop-statement.invariant (sym c.is_quiet.ensures ∙ c.if-not-is_quiet.true)

pub are_quiet-loop-statement-preserved : goal.are_quiet-loop-statement-preserved
are_quiet-loop-statement-preserved t c =
    quiet_on c.args.self.program.now c.args.self.plan.now c.args.stage c.args.all.now c.loop-statement.statement-index c.statement-item.result
    (omega arith) c.statement-item.is
    c.loop-statement.invariant (sym c.is_quiet.ensures ∙ c.if-not-is_quiet.false)

pub are_quiet-returns : goal.are_quiet-returns
are_quiet-returns t c =
    quiet_all c.args.self.program.now c.args.self.plan.now c.args.stage c.args.all.now c.loop-statement.statement-index c.loop-statement.invariant (omega arith)
