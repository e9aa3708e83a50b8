use Rattle.std.proofs.Common.{◌≡◌, drop}
use Rattle.dp_plan.specs.Access.{stores_var}
use Rattle.dp_net.specs.Hidden.{first_stage}
use Rattle.dp_lean_code.specs.steps.Needs.{accesses_in}
use Rattle.dp_lean_code.proofs.needs.Needs.first_storing.Given as goal

abbrev pub invariant-loop-access : goal.invariant-loop-access
invariant-loop-access l =
    first_stage l.self.program.now l.self.plan.now (stores_var l.var) 0 (accesses_in (drop l.access-index l.self.accesses.now)) ≡ first_stage l.self.program.now
    l.self.plan.now (stores_var l.var) 0 (accesses_in l.self.accesses.now)
