use Rattle.std.proofs.Common.{◌≡◌, ◌++◌, drop}
use Rattle.dp_sites.specs.steps.Comparing.{pairs_among}
use Rattle.dp_sites.proofs.compared.put_pairs.Given as goal

abbrev pub invariant-loop-part : goal.invariant-loop-part
invariant-loop-part l = l.out ++ pairs_among l.p l.plan l.stores (drop l.part-index l.parts) ≡ l.initial.out ++ pairs_among l.p l.plan l.stores l.parts
