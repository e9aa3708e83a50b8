use Rattle.std.proofs.Common.{◌≡◌, length, map}
use Rattle.dp_tokens.specs.Symbols.{spelled}
use Rattle.dp_tokens.proofs.symbol.spelled.Given as goal

abbrev pub invariant-loop-table : goal.invariant-loop-table
invariant-loop-table l = spelled (map (λ entry. (entry.0.now, entry.1)) l.table) l.text ≡ spelled (map (λ entry. (entry.0.now, entry.1)) l.initial.table) l.text

abbrev pub decreases-loop-table : goal.decreases-loop-table
decreases-loop-table l = length l.table
