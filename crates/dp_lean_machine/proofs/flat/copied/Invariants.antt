use Rattle.std.proofs.Common.{◌≡◌, length, ◌++◌}
use Rattle.dp_lean_machine.proofs.flat.copied.Given as goal

-- what was copied and what is left are all cells
abbrev pub invariant-loop-page : goal.invariant-loop-page
invariant-loop-page l = l.values.items ++ l.pages.1 ≡ l.fn.version

abbrev pub decreases-loop-page : goal.decreases-loop-page
decreases-loop-page l = length l.pages.1
