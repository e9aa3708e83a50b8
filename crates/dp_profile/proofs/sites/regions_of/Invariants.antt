use Rattle.std.proofs.Common.{◌≡◌, ◌++◌, drop, map, filter}
use Rattle.dp_tree.specs.Numbering.{is_marked}
use Rattle.dp_profile.specs.Sites.{sites, regions}
use Rattle.dp_profile.proofs.sites.regions_of.Given as goal

abbrev pub invariant-loop-statement : goal.invariant-loop-statement
invariant-loop-statement l = l.out ++ map sites (filter is_marked (drop l.statement-index l.p.main)) ≡ regions l.p
