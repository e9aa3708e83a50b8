use Rattle.std.proofs.Common.{◌≡◌, ◌+◌, length, drop}
use Rattle.dp_lean_code.specs.steps.Runs.{run_in}
use Rattle.dp_lean_code.proofs.quiet.Runs.run.Given as goal

abbrev pub invariant-loop-place : goal.invariant-loop-place
invariant-loop-place l =
    l.place + length (run_in l.self.program.now l.self.plan.now l.stage (drop l.place l.all)) ≡ length (run_in l.self.program.now l.self.plan.now l.stage l.all)
