use Rattle.std.proofs.Common.{◌≡◌, drop}
use Rattle.std.specs.List.{list_any}
use Rattle.dp_lean.specs.Needed.{loads_in}
use Rattle.dp_lean_code.specs.steps.Needs.{accesses_in}
use Rattle.dp_lean_code.proofs.needs.Needs.is_loaded_in.Given as goal

abbrev pub invariant-loop-access : goal.invariant-loop-access
invariant-loop-access l = list_any (loads_in l.self.program.now l.self.plan.now l.stage l.var) (accesses_in (drop l.access-index l.self.accesses.now))
    ≡ list_any (loads_in l.self.program.now l.self.plan.now l.stage l.var) (accesses_in l.self.accesses.now)
