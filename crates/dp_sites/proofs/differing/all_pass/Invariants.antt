use Rattle.std.proofs.Common.{◌≡◌, drop}
use Rattle.std.specs.List.{list_all}
use Rattle.dp_sites.specs.Storings as spec
use Rattle.dp_sites.proofs.differing.all_pass.Given as goal

abbrev pub invariant-loop-load : goal.invariant-loop-load
invariant-loop-load l = list_all (spec.load_passes l.test l.part.site l.array l.moving) (drop l.load-index l.part.loads) ≡ list_all
    (spec.load_passes l.test l.part.site l.array l.moving) l.part.loads
