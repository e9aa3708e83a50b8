use Rattle.std.proofs.Common.{◌≡◌, ◌++◌, drop, map}
use Rattle.dp_lean_machine.specs.Held.{kinds_in}
use Rattle.dp_lean_machine.proofs.fresh.stage_columns.Given as goal

abbrev pub invariant-loop-own : goal.invariant-loop-own
invariant-loop-own l = map kinds_in l.stages ++ drop l.own-index l.kinds ≡ l.kinds
