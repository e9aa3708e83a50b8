use Rattle.std.proofs.Common.{◌≡◌, ◌++◌, ◌+◌, ◌-◌}
use Rattle.dp_semantics.specs.Judge.{last}
use Rattle.dp_lean_kinds.specs.steps.Read.{stages_read}
use Rattle.dp_lean_kinds.proofs.reads.later_reads.Given as goal

abbrev pub invariant-loop-place : goal.invariant-loop-place
invariant-loop-place l =
    l.reads ++ stages_read l.program l.plan l.tables (l.place + 1) (last l.plan - l.place)
    ≡ stages_read l.program l.plan l.tables (l.stage + 1) (last l.plan - l.stage)
