use Rattle.std.proofs.Common.{refl}
use Rattle.dp_lean_region.proofs.Holding.{judging_there}
use Rattle.dp_lean_region.proofs.region.RegionTables.judging.Goals as goal

pub returns : goal.returns
returns c = judging_there c.self.invariant _ c.self.view_is _ refl c.as_slice.ensures
