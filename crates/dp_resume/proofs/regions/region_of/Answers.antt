use Rattle.std.proofs.Common.{◌-◌, arith}
use Rattle.dp_resume.proofs.RegionParts.{own_at_place}
use Rattle.dp_resume.proofs.regions.region_of.Goals as goal

pub returns-clause-own : goal.returns-clause-own
returns-clause-own c = own_at_place c.args.prepared.now.program c.args.prepared.now.plans c.regions-regions.result.now c.regions-regions.ensures
    (c.args.region - 1) c.index-regions-region.result (omega (arith, c.requires.0, c.requires.1)) c.index-regions-region.is
