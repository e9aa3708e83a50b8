use Rattle.std.proofs.Common.{◌≡◌, ◌++◌, drop, map}
use Rattle.dp_lean_machine.specs.Within.{read_of}
use Rattle.dp_lean_machine.proofs.desk.readers_of.Given as goal

abbrev pub invariant-loop-columns : goal.invariant-loop-columns
invariant-loop-columns l = l.readers ++ map read_of (drop l.columns-index l.stages) ≡ map read_of l.stages
