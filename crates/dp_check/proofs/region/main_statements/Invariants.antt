use Rattle.std.proofs.Common.{◌≡◌, drop}
use Rattle.dp_check.specs.Answer.{main_answer, onto}
use Rattle.dp_check.proofs.region.main_statements.Given as goal

abbrev pub invariant-loop-s : goal.invariant-loop-s
invariant-loop-s l = main_answer l.fn.place 1 l.all ≡ onto l.done (main_answer l.place l.number (drop l.s-index l.all))
