use Rattle.std.proofs.Common.{◌≡◌, ◌+◌, ◌-◌, length}
use Rattle.std.specs.List.{list_all}
use Rattle.dp_tree.specs.Numbering.{numbers_from}
use Rattle.dp_lean_epoch.specs.Steps.{keeps_memory}
use Rattle.dp_lean_region.proofs.feeding.all_keep_memory.Given as goal

abbrev pub invariant-loop-place : goal.invariant-loop-place
invariant-loop-place l =
    list_all (keeps_memory l.program l.plan) (numbers_from (1 + l.place) (length l.plan.stages - l.place))
    ≡ list_all (keeps_memory l.program l.plan) (numbers_from 1 (length l.plan.stages))
