use Rattle.std.proofs.Common.{◌≡◌, ◌+◌, ◌≤◌, ◌<◌, length, map, drop}
use Rattle.dp_lex.specs.Tokens.{lexeme}
use Rattle.dp_parse.specs.Depth.{else_if}
use Rattle.dp_parse.proofs.Counts.{else_from, symbols}
use Rattle.dp_parse.proofs.depth.else_if.Given as goal

abbrev pub invariant-loop-token : goal.invariant-loop-token
invariant-loop-token l =
    (else_if (map lexeme l.tokens) ≡ l.count + else_from l.after_else (symbols (drop l.token-index l.tokens))) × (l.count ≤ l.token-index)
    × (length l.tokens < 4294967296)
