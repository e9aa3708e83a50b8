use Rattle.std.proofs.Common.{◌≡◌, drop}
use Rattle.dp_inline.specs.steps.Written.{written, blank, with_globals}
use Rattle.dp_inline.proofs.program.begin.Given as goal

abbrev pub invariant-loop-info : goal.invariant-loop-info
invariant-loop-info l = with_globals blank l.p.vars ≡ with_globals (written l.out) (drop l.info-index l.info-items)
