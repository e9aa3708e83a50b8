use Rattle.std.proofs.Common.{◌≡◌, ◌+◌, ◌-◌, ◌++◌, length, map}
use Rattle.dp_tree.specs.Numbering.{numbers_from}
use Rattle.dp_lean_code.specs.Known.{paying_marks}
use Rattle.dp_lean_kinds.specs.ColumnKinds.{region_kinds}
use Rattle.dp_lean_region.specs.Region.{plan_kinds}
use Rattle.dp_lean_region.proofs.kinds.plan_kinds.Given as goal

abbrev pub invariant-loop-place : goal.invariant-loop-place
invariant-loop-place l =
    l.rows ++ map (region_kinds l.program l.plan (paying_marks l.program l.plan)) (numbers_from (1 + l.place) (length l.plan.stages - l.place))
    ≡ plan_kinds l.program l.plan
