use Rattle.std.proofs.Common.{◌≡◌, drop}
use Rattle.dp_net.specs.Hidden.{loads_var, first_stage}
use Rattle.dp_lean_code.specs.steps.Needs.{accesses_in}
use Rattle.dp_lean_code.proofs.needs.Needs.first_loading.Given as goal

abbrev pub invariant-loop-access : goal.invariant-loop-access
invariant-loop-access l =
    first_stage l.self.program.now l.self.plan.now (loads_var l.self.program.now l.self.plan.now l.var) l.other
    (accesses_in (drop l.access-index l.self.accesses.now))
    ≡ first_stage l.self.program.now l.self.plan.now (loads_var l.self.program.now l.self.plan.now l.var) l.other (accesses_in l.self.accesses.now)
