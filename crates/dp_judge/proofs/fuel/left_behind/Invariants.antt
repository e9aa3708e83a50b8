use Rattle.std.proofs.Common.{◌≡◌, ◌+◌, drop, map}
use Rattle.dp_lean_epoch.specs.LeanBatch.{steps_among}
use Rattle.dp_lean_machine.specs.Held.{held_in}
use Rattle.dp_judge.proofs.fuel.left_behind.Given as goal

abbrev pub invariant-loop-columns : goal.invariant-loop-columns
invariant-loop-columns l =
    l.left + steps_among (map held_in (drop l.columns-index l.stages)) l.place ≡ l.after + steps_among (map held_in l.stages) l.place
