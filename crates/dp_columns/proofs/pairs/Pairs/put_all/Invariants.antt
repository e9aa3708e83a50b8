use Rattle.std.proofs.Common.{◌≡◌, ◌++◌, List, map, drop}
use Rattle.dp_tree.specs.Eval.{Load}
use Rattle.dp_columns.specs.Paired.{pair_load}
use Rattle.dp_columns.proofs.pairs.Pairs.put_all.Given as goal

abbrev pub invariant-loop-pair : goal.invariant-loop-pair
invariant-loop-pair l =
    (l.self ++ map pair_load (drop l.pair-index l.pairs) ≡ l.initial.self ++ map pair_load l.pairs) × (more : List Load) × (l.self ≡ l.initial.self ++ more)
