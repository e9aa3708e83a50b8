use Rattle.std.proofs.Common.{◌∙◌, sym, arith}
use Rattle.dp_lean_code.proofs.RunLists.{run_broken, run_on, run_over}
use Rattle.dp_lean_code.proofs.quiet.Runs.run.Goals as goal

pub returns-then-not-is_quiet : goal.returns-then-not-is_quiet
returns-then-not-is_quiet c =
    run_broken c.args.self.program.now c.args.self.plan.now c.args.stage c.args.all.now c.loop-place.place c.index-all-place.result (omega arith)
    c.index-all-place.is
    c.loop-place.invariant (sym c.is_quiet.ensures ∙ c.if-not-is_quiet.true)

pub loop-place-preserved : goal.loop-place-preserved
loop-place-preserved c =
    run_on c.args.self.program.now c.args.self.plan.now c.args.stage c.args.all.now c.loop-place.place c.index-all-place.result (omega arith)
    c.index-all-place.is
    c.loop-place.invariant (sym c.is_quiet.ensures ∙ c.if-not-is_quiet.false)

pub returns : goal.returns
returns c =
    run_over c.args.self.program.now c.args.self.plan.now c.args.stage c.args.all.now c.loop-place.place c.loop-place.invariant (omega arith)
