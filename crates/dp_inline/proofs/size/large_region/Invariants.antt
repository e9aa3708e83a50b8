use Rattle.std.proofs.Common.{◌≡◌, drop}
use Rattle.dp_inline.specs.steps.Counted.{first_large}
use Rattle.dp_inline.proofs.size.large_region.Given as goal

abbrev pub invariant-loop-s : goal.invariant-loop-s
invariant-loop-s l = first_large l.sizes l.all ≡ first_large l.sizes (drop l.s-index l.all)
