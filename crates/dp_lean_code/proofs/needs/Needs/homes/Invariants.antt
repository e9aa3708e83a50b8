use Rattle.std.proofs.Common.{◌≡◌}
use Rattle.std.proofs.Common.{◌+◌, ◌-◌, ◌++◌, length, map}
use Rattle.dp_tree.specs.Numbering.{numbers_from}
use Rattle.dp_lean_code.specs.steps.Needs.{accesses_in, private_home}
use Rattle.dp_lean_code.proofs.needs.Needs.homes.Given as goal

abbrev pub invariant-loop-var : goal.invariant-loop-var
invariant-loop-var l =
    l.homes ++ map (private_home l.self.program.now l.self.plan.now (accesses_in l.self.accesses.now))
    (numbers_from (0 + l.var) (length l.self.program.now.vars - l.var))
    ≡ map (private_home l.self.program.now l.self.plan.now (accesses_in l.self.accesses.now)) (numbers_from 0 (length l.self.program.now.vars))
