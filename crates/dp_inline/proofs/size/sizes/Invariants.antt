use Rattle.std.proofs.Common.{◌≡◌, [], drop}
use Rattle.dp_inline.specs.steps.Counted.{counted_more}
use Rattle.dp_inline.proofs.size.sizes.Given as goal

abbrev pub invariant-loop-function : goal.invariant-loop-function
invariant-loop-function l = counted_more l.each [] l.functions ≡ counted_more l.each l.done (drop l.function-index l.functions)
