use Rattle.std.proofs.Common.{◌≡◌, ◌-◌, drop}
use Rattle.dp_plan.specs.Rules as rules
use Rattle.dp_plan_text.proofs.rules.stages.neighbours_replicated.Given as goal

abbrev pub invariant-loop-later : goal.invariant-loop-later
invariant-loop-later l = rules.second_neighbour (drop (l.later - 1) l.lines) ≡ rules.second_neighbour l.lines
