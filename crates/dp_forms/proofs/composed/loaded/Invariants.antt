use Rattle.std.proofs.Common.{◌≡◌, ◌<◌, ℕ, pos, get_or, length}
use Rattle.dp_forms.proofs.composed.loaded.Given as goal

abbrev pub invariant-loop-k : goal.invariant-loop-k
invariant-loop-k g l = record {
  same : (j : ℕ) → j < l.k → get_or l.registers j (pos 0) ≡ get_or l.cells (get_or l.homes j 0) (pos 0);
  long : length l.registers ≡ length l.homes;
}
