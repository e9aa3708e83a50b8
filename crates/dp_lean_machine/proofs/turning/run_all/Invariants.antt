use Rattle.std.proofs.Common.{◌≤◌, ℕ}
use Rattle.dp_net.specs.NetPackets.{NetStatus}
use Rattle.dp_lean_turn.specs.Standing.{Keeps}
use Rattle.dp_lean_region.specs.LeanEpoch.{LeanEpoch}
use Rattle.dp_lean_region.specs.Line.{RunsIn}
use Rattle.dp_lean_machine.specs.Sent.{AsStatus}
use Rattle.dp_lean_machine.specs.Within.{IsCame, Within}
use Rattle.dp_lean_machine.proofs.turning.run_all.Given as goal

abbrev pub invariant-loop-done : goal.invariant-loop-done
invariant-loop-done g l =
    Keeps l.initial.turn l.turn
    × (l.done ≤ l.came.iterations)
    × ((e : LeanEpoch) (s b : ℕ) (ends : NetStatus) → AsStatus l.came.status ends → IsCame e s b (record { iterations = l.came.iterations; ends = ends }) →
    RunsIn e s l.stage →
    Within e s b g.M.Memory.cells l.came.iterations 0 l.initial.turn l.initial.steps → Within e s b g.M.Memory.cells l.came.iterations l.done l.turn l.steps)
