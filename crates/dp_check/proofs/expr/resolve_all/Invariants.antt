use Rattle.std.proofs.Common.{◌≡◌, drop}
use Rattle.dp_check.specs.Answer.{args_answer, onto}
use Rattle.dp_check.proofs.expr.resolve_all.Given as goal

abbrev pub invariant-loop-e : goal.invariant-loop-e
invariant-loop-e l = args_answer l.names l.all ≡ onto l.done (args_answer l.names (drop l.e-index l.all))
