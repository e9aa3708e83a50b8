use Rattle.std.proofs.Common.{◌≡◌, ◌≤◌, ◌<◌, map, length, drop}
use Rattle.dp_lex.specs.Tokens.{lexeme}
use Rattle.dp_parse.specs.Depth.{operators}
use Rattle.dp_parse.proofs.Counts.{operators_from, symbols}
use Rattle.dp_parse.proofs.depth.operators.Given as goal

abbrev pub invariant-loop-token : goal.invariant-loop-token
invariant-loop-token l =
    (operators (map lexeme l.tokens) ≡ operators_from l.here l.most (symbols (drop l.token-index l.tokens)))
    × (l.here ≤ l.token-index) × (l.here ≤ l.most) × (length l.tokens < 4294967296)
