use Rattle.std.proofs.Common.{◌≡◌, ◌++◌, drop}
use Rattle.dp_depend.specs.Shown as spec
use Rattle.dp_depend.proofs.chosen.chosen_among.Given as goal

abbrev pub invariant-loop-node : goal.invariant-loop-node
invariant-loop-node l =
    l.chosen ++ spec.chosen_among l.shown.counts.now l.shown.first l.shown.rate (drop l.node-index l.nodes)
    ≡ spec.chosen_among l.shown.counts.now l.shown.first l.shown.rate l.nodes
