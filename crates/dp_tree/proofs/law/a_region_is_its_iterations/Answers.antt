use Rattle.dp_tree.proofs.RegionLaws.{regions_are_iterations}
use Rattle.dp_tree.proofs.law.a_region_is_its_iterations.Goals as goal

pub returns : goal.returns
returns c = record { made_up = regions_are_iterations c.args.p.now c.args.input.now }
