use Rattle.std.proofs.Common.{◌≡◌, ◌++◌, drop, map}
use Rattle.dp_sites.specs.Storings as stored
use Rattle.dp_sites.proofs.apart.stores_of.Given as goal

abbrev pub invariant-loop-part : goal.invariant-loop-part
invariant-loop-part l =
    l.stores ++ map (stored.storing_at l.p l.plan l.parts l.body) (drop l.part-index l.parts) ≡ map (stored.storing_at l.p l.plan l.parts l.body) l.parts
