use Rattle.std.proofs.Common.{◌≡◌, ◌++◌, drop, map}
use Rattle.dp_units.specs.Graph.{AreWithin}
use Rattle.dp_cut.specs.Automatic.{node_pair}
use Rattle.dp_cut.proofs.automatic.pairs_of.Given as goal

abbrev pub invariant-loop-edge : goal.invariant-loop-edge
invariant-loop-edge l = (l.pairs ++ map (node_pair l.first) (drop l.edge-index l.edges) ≡ map (node_pair l.first) l.edges) × AreWithin l.count l.pairs
