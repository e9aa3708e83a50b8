use Rattle.std.proofs.Common.{◌≡◌, subst, ◌∙◌}
use Rattle.dp_lean_region.specs.Region.{LeanRegion, plan_kinds}
use Rattle.dp_lean_region.proofs.region.RegionTables.kinds.Goals as goal

pub returns : goal.returns
returns c = subst (λ (v : LeanRegion). c.as_slice.result.now ≡ plan_kinds v.program v.plan) c.self.view_is (c.as_slice.ensures ∙ c.self.invariant.columns)
