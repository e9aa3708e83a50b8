use Rattle.std.proofs.Common.{◌≡◌}
use Rattle.std.proofs.Common.{◌+◌, ◌-◌, ◌++◌, length, map}
use Rattle.dp_tree.specs.Numbering.{numbers_from}
use Rattle.dp_lean_code.specs.steps.Needs.{accesses_in, done_among}
use Rattle.dp_lean_code.proofs.needs.Needs.done_in.Given as goal

abbrev pub invariant-loop-var : goal.invariant-loop-var
invariant-loop-var l =
    l.row ++ map (done_among l.self.program.now l.self.plan.now (accesses_in l.self.accesses.now) l.stage)
    (numbers_from (0 + l.var) (length l.self.program.now.vars - l.var))
    ≡ map (done_among l.self.program.now l.self.plan.now (accesses_in l.self.accesses.now) l.stage) (numbers_from 0 (length l.self.program.now.vars))
