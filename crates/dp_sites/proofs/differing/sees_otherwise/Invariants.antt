use Rattle.std.proofs.Common.{◌≡◌, drop}
use Rattle.std.specs.List.{list_any}
use Rattle.dp_sites.specs.Storings as spec
use Rattle.dp_sites.proofs.differing.sees_otherwise.Given as goal

abbrev pub invariant-loop-storing : goal.invariant-loop-storing
invariant-loop-storing l = list_any (spec.stores_otherwise l.p l.plan l.part l.load.var) (drop l.storing-index l.all) ≡ list_any
    (spec.stores_otherwise l.p l.plan l.part l.load.var) l.all
