use Rattle.std.proofs.Common.{◌≡◌, drop}
use Rattle.dp_check.specs.Tables.{main_locals}
use Rattle.dp_check.specs.steps.Growing.{with_variables}
use Rattle.dp_check.proofs.variables.Variables.main.Given as goal

abbrev pub invariant-loop-s : goal.invariant-loop-s
invariant-loop-s l = with_variables l.fn.self (main_locals 1 l.all) ≡ with_variables l.self (main_locals l.number (drop l.s-index l.all))
