use Rattle.std.proofs.Common.{drop}
use Rattle.dp_check.proofs.ItemLemmas.{ItemsSoFar}
use Rattle.dp_check.proofs.items.Head.items.Given as goal

abbrev pub invariant-loop-item : goal.invariant-loop-item
invariant-loop-item l = ItemsSoFar l.fn.self l.self l.done l.all (drop l.item-index l.all)
