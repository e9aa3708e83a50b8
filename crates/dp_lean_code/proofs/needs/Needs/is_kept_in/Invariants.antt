use Rattle.std.proofs.Common.{◌≡◌, drop}
use Rattle.std.specs.List.{list_all}
use Rattle.dp_lean_code.specs.steps.Needs.{accesses_in, keeps_to}
use Rattle.dp_lean_code.proofs.needs.Needs.is_kept_in.Given as goal

abbrev pub invariant-loop-access : goal.invariant-loop-access
invariant-loop-access l =
    list_all (keeps_to l.self.program.now l.self.plan.now (accesses_in l.self.accesses.now) l.home l.var)
    (accesses_in (drop l.access-index l.self.accesses.now))
    ≡ list_all (keeps_to l.self.program.now l.self.plan.now (accesses_in l.self.accesses.now) l.home l.var) (accesses_in l.self.accesses.now)
