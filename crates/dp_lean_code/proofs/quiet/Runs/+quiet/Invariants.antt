use Rattle.std.proofs.Common.{◌≡◌, drop}
use Rattle.dp_lean_code.specs.steps.Runs.{all_quiet_in}
use Rattle.dp_lean_code.proofs.quiet.Runs.+quiet.Given as goal

abbrev pub invariant-are_quiet-loop-statement : goal.invariant-are_quiet-loop-statement
invariant-are_quiet-loop-statement l =
    all_quiet_in l.self.program.now l.self.plan.now l.stage (drop l.statement-index l.all) ≡ all_quiet_in l.self.program.now l.self.plan.now l.stage l.all
