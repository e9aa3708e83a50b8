use Rattle.std.proofs.Common.{◌≡◌}
use Rattle.std.proofs.Common.{◌+◌, ◌-◌, ◌++◌, length, map}
use Rattle.dp_tree.specs.Numbering.{numbers_from}
use Rattle.dp_semantics.specs.Judge.{last}
use Rattle.dp_lean_code.specs.steps.Needs.{accesses_in, done_among}
use Rattle.dp_lean_code.proofs.needs.Needs.done.Given as goal

abbrev pub invariant-loop-place : goal.invariant-loop-place
invariant-loop-place l =
    l.rows ++ map (λ stage. map (done_among l.self.program.now l.self.plan.now (accesses_in l.self.accesses.now) stage)
    (numbers_from 0 (length l.self.program.now.vars))) (numbers_from (1 + l.place) (last l.self.plan.now - l.place))
    ≡ map (λ stage. map (done_among l.self.program.now l.self.plan.now (accesses_in l.self.accesses.now) stage)
    (numbers_from 0 (length l.self.program.now.vars))) (numbers_from 1 (last l.self.plan.now))
