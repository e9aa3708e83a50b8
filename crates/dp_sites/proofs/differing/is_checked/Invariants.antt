use Rattle.std.proofs.Common.{◌≡◌, drop}
use Rattle.std.specs.List.{list_any}
use Rattle.dp_sites.specs.Storings as spec
use Rattle.dp_sites.proofs.differing.is_checked.Given as goal

abbrev pub invariant-loop-load : goal.invariant-loop-load
invariant-loop-load l = list_any (spec.sees_otherwise l.p l.plan l.all l.part) (drop l.load-index l.part.loads) ≡ list_any
    (spec.sees_otherwise l.p l.plan l.all l.part) l.part.loads
