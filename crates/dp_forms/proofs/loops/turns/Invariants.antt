use Rattle.std.proofs.Common.{◌≡◌, ◌≤◌, length}
use Rattle.dp_forms.specs.Codes.{LoopRound, OfWhile}
use Rattle.dp_forms.proofs.loops.turns.Given as goal

abbrev pub invariant-turns : goal.invariant-turns
invariant-turns g l = record {
  kept : LoopRound (OfWhile g.row.S g.C.Value.is_of g.A.Code.is_of) l.fn.input l.fn.state.fuel l.fn.state.registers l.fn.memory l.fn.out l.state.fuel
      l.state.registers l.memory l.out;
  long : length l.memory ≡ length l.fn.memory;
  zero : l.state.at ≡ 0;
  less : l.state.fuel ≤ l.fn.state.fuel;
}

abbrev pub decreases-turns : goal.decreases-turns
decreases-turns g l = l.state.fuel
