use Rattle.std.proofs.Common.{◌≡◌, ◌-◌, ◌≤◌, length, map}
use Rattle.dp_lex.specs.Tokens.{ReadsTokens, lexeme}
use Rattle.dp_parse.proofs.source.read_tokens.Given as goal

abbrev pub invariant-loop-token : goal.invariant-loop-token
invariant-loop-token l =
    ReadsTokens l.text 0 (map lexeme l.tokens) l.lexer.place × (l.lexer.text ≡ l.text) × (l.lexer.place ≤ length l.text)

abbrev pub decreases-loop-token : goal.decreases-loop-token
decreases-loop-token l = length l.text - l.lexer.place
