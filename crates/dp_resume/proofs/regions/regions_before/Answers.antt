use Rattle.std.proofs.Common.{refl}
use Rattle.dp_resume.proofs.RegionParts.{own_before, plans_before}
use Rattle.dp_resume.proofs.regions.regions_before.Goals as goal

pub returns-clause-plans : goal.returns-clause-plans
returns-clause-plans c =
    plans_before c.args.prepared.now.program c.args.prepared.now.plans c.regions-regions.result.now c.regions-regions.ensures c.args.count _ refl

pub returns-clause-own : goal.returns-clause-own
returns-clause-own c =
    own_before c.args.prepared.now.program c.args.prepared.now.plans c.regions-regions.result.now c.regions-regions.ensures c.args.count _ refl
