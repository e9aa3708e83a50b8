use Rattle.std.proofs.Common.{◌≡◌, drop}
use Rattle.dp_check.specs.steps.Growing.{with_main}
use Rattle.dp_check.proofs.sites.Sites.main.Given as goal

abbrev pub invariant-loop-s : goal.invariant-loop-s
invariant-loop-s l = with_main l.fn.self 1 l.all ≡ with_main l.self l.number (drop l.s-index l.all)
