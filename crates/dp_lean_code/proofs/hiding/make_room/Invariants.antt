use Rattle.std.proofs.Common.{◌≡◌, ℕ, false, length, get_or}
use Rattle.dp_lean_code.proofs.hiding.make_room.Given as goal

abbrev pub invariant-loop-place : goal.invariant-loop-place
invariant-loop-place l = ((c : ℕ) → get_or l.marks c false ≡ get_or l.initial.marks c false) × (length l.marks ≡ l._place)
