use Rattle.std.proofs.Common.{◌≡◌, drop}
use Rattle.std.specs.List.{list_any}
use Rattle.dp_lean_code.specs.steps.Runs.{gains_in}
use Rattle.dp_lean_code.proofs.quiet.Runs.pays.Given as goal

abbrev pub invariant-loop-statement : goal.invariant-loop-statement
invariant-loop-statement l =
    list_any (gains_in l.self.program.now l.self.plan.now l.self.homes.now l.stage) (drop l.statement-index l.block) ≡ list_any
    (gains_in l.self.program.now l.self.plan.now l.self.homes.now l.stage) l.block
