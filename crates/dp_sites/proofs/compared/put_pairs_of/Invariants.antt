use Rattle.std.proofs.Common.{◌≡◌, ◌++◌, drop}
use Rattle.dp_sites.specs.steps.Comparing.{pairs_of}
use Rattle.dp_sites.proofs.compared.put_pairs_of.Given as goal

abbrev pub invariant-loop-storing : goal.invariant-loop-storing
invariant-loop-storing l = l.out ++ pairs_of l.p l.plan (drop l.storing-index l.stores) l.part ≡ l.initial.out ++ pairs_of l.p l.plan l.stores l.part
