use Rattle.std.proofs.Common.{◌≡◌, ◌-◌, ◌++◌}
use Rattle.std.specs.List.{flat_map}
use Rattle.dp_tree.specs.Numbering.{numbers_from}
use Rattle.dp_explain.specs.UnitText.{unit_line, unit_lines}
use Rattle.dp_explain.proofs.weighed.put_units.Given as goal

abbrev pub invariant-loop-place : goal.invariant-loop-place
invariant-loop-place l =
    l.out ++ flat_map (unit_line l.places l.weights l.first l.nodes) (numbers_from l.place (l.count - l.place))
    ≡ l.initial.out ++ unit_lines l.places l.weights l.first l.nodes l.count
