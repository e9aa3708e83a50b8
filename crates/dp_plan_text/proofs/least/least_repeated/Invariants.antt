use Rattle.std.proofs.Common.{◌≡◌, ◌-◌, drop}
use Rattle.dp_plan_text.proofs.OrderLemmas.{first_again}
use Rattle.dp_plan_text.proofs.least.least_repeated.Given as goal

abbrev pub invariant-loop-later : goal.invariant-loop-later
invariant-loop-later l = first_again (drop (l.later - 1) l.ascending) ≡ first_again l.ascending
