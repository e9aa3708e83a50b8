use Rattle.std.proofs.Common.{subst}
use Rattle.dp_lean_region.specs.Region.{LeanRegion}
use Rattle.dp_lean_region.specs.Laws.{AreLawful}
use Rattle.dp_lean_region.proofs.region.RegionTables.epochs_are_lawful.Goals as goal

pub returns : goal.returns
returns c = subst (λ (v : LeanRegion). AreLawful v.program v.plan v.cap) c.self.view_is (c.epochs_are_lawful.ensures _ c.self.invariant.judge.cap.single)
