use Rattle.std.proofs.Common.{◌≡◌, ◌++◌, drop, map}
use Rattle.std.specs.Option.{option_copied}
use Rattle.dp_cut.specs.Automatic.{site_weight}
use Rattle.dp_cut.proofs.site_weights.weights_of.Given as goal

abbrev pub invariant-loop-node : goal.invariant-loop-node
invariant-loop-node l = l.weights ++ map (site_weight (option_copied l.profile) l.region l.first) (drop l.node-index l.nodes) ≡ map
    (site_weight (option_copied l.profile) l.region l.first) l.nodes
