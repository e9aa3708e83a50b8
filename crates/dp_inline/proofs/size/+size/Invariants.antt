use Rattle.std.proofs.Common.{◌≡◌, ◌+◌, ◌≤◌, min, drop}
use Rattle.dp_base.specs.Counts.{reported_count}
use Rattle.dp_inline.specs.steps.Counted.{counted_list}
use Rattle.dp_inline.proofs.size.+size.Given as goal

abbrev pub invariant-size_of_all-loop-s : goal.invariant-size_of_all-loop-s
invariant-size_of_all-loop-s l =
    (l.size ≤ 1000000) × (reported_count (counted_list l.each l.sizes l.all) ≡ min (l.size + counted_list l.each l.sizes (drop l.s-index l.all)) 1000000)
