use Rattle.std.proofs.Common.{◌≡◌, ◌+◌, ◌-◌, ◌++◌, length, map}
use Rattle.dp_tree.specs.Numbering.{numbers_from}
use Rattle.dp_sites.specs.Storings.{answer_at}
use Rattle.dp_sites.proofs.table.answers.Given as goal

abbrev pub invariant-loop-place : goal.invariant-loop-place
invariant-loop-place l =
    l.found ++ map (answer_at l.p l.plan l.parts l.body) (numbers_from (0 + l.place) (length l.plan.stage_of - l.place))
    ≡ map (answer_at l.p l.plan l.parts l.body) (numbers_from 0 (length l.plan.stage_of))
