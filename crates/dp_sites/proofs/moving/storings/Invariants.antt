use Rattle.std.proofs.Common.{◌≡◌, ◌++◌, drop, filter_map}
use Rattle.dp_sites.specs.Storings as spec
use Rattle.dp_sites.proofs.moving.storings.Given as goal

abbrev pub invariant-loop-part : goal.invariant-loop-part
invariant-loop-part l =
    l.found ++ filter_map (spec.storing_at l.p l.plan l.all l.body) (drop l.part-index l.all) ≡ filter_map (spec.storing_at l.p l.plan l.all l.body) l.all
