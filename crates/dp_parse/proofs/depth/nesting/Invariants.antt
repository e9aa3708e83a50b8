use Rattle.std.proofs.Common.{◌≡◌, ◌≤◌, ◌<◌, ◌-◌, map, length, drop}
use Rattle.dp_lex.specs.Tokens.{lexeme}
use Rattle.dp_parse.specs.Depth.{nesting}
use Rattle.dp_parse.proofs.Counts.{nesting_from, symbols}
use Rattle.dp_parse.proofs.depth.nesting.Given as goal

abbrev pub invariant-loop-token : goal.invariant-loop-token
invariant-loop-token l =
    (nesting (map lexeme l.tokens) ≡ nesting_from l.opened l.closed l.most (symbols (drop l.token-index l.tokens)))
    × (l.opened ≤ l.token-index) × (l.closed ≤ l.token-index) × (l.opened - l.closed ≤ l.most) × (length l.tokens < 4294967296)
