use Rattle.std.proofs.Common.{◌≡◌, drop}
use Rattle.dp_lean_code.specs.steps.Runs.{hides_from}
use Rattle.dp_lean_code.proofs.quiet.Runs.hides.Given as goal

abbrev pub invariant-loop-place : goal.invariant-loop-place
invariant-loop-place l =
    hides_from l.self.program.now l.self.plan.now l.stage l.cell.0 l.place (drop l.place l.self.homes.now) ≡ hides_from l.self.program.now l.self.plan.now
    l.stage l.cell.0 0 l.self.homes.now
