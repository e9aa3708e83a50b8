use Rattle.std.proofs.Common.{◌≡◌, drop, map}
use Rattle.dp_lex.specs.Scan.{is_one_of}
use Rattle.dp_lex.proofs.tables.is_one_of.Given as goal

abbrev pub invariant-loop-entry : goal.invariant-loop-entry
invariant-loop-entry l = is_one_of (map (λ entry. entry.now) (drop l.entry-index l.table)) l.word ≡ is_one_of (map (λ entry. entry.now) l.table) l.word
