use Rattle.std.proofs.Common.{◌≡◌, drop}
use Rattle.std.specs.List.{list_any}
use Rattle.dp_lean.specs.Needed.{compares}
use Rattle.dp_lean_code.specs.steps.Needs.{accesses_in}
use Rattle.dp_lean_code.proofs.needs.Needs.is_compared.Given as goal

abbrev pub invariant-loop-access : goal.invariant-loop-access
invariant-loop-access l = list_any (compares l.self.program.now l.self.plan.now l.var) (accesses_in (drop l.access-index l.self.accesses.now)) ≡ list_any
    (compares l.self.program.now l.self.plan.now l.var) (accesses_in l.self.accesses.now)
