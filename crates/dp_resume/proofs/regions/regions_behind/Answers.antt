use Rattle.std.proofs.lemmas.List.{take_rest}
use Rattle.dp_resume.proofs.RegionParts.{own_behind, plans_behind}
use Rattle.dp_resume.proofs.regions.regions_behind.Goals as goal

pub returns-clause-plans : goal.returns-clause-plans
returns-clause-plans c = plans_behind c.args.prepared.now.program c.args.prepared.now.plans c.regions-regions.result.now c.regions-regions.ensures c.args.count
    _ (take_rest c.regions-regions.result.now c.args.count)

pub returns-clause-own : goal.returns-clause-own
returns-clause-own c = own_behind c.args.prepared.now.program c.args.prepared.now.plans c.regions-regions.result.now c.regions-regions.ensures c.args.count _
    (take_rest c.regions-regions.result.now c.args.count)
