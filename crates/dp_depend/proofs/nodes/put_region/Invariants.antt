use Rattle.std.proofs.Common.{◌≡◌, ◌++◌, drop}
use Rattle.dp_depend.specs.Lists.{nodes_in_region}
use Rattle.dp_depend.proofs.nodes.put_region.Given as goal

abbrev pub invariant-loop-statement : goal.invariant-loop-statement
invariant-loop-statement l = l.out ++ nodes_in_region l.region (drop l.statement-index l.all) ≡ l.initial.out ++ nodes_in_region l.region l.all
