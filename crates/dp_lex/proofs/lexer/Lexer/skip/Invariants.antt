use Rattle.std.proofs.Common.{◌≡◌, ◌-◌, [], length}
use Rattle.dp_lex.specs.Tokens.{ReadsTokens, IsInText}
use Rattle.dp_lex.proofs.lexer.Lexer.skip.Given as goal

abbrev pub invariant-loop-rest : goal.invariant-loop-rest
invariant-loop-rest l = record {
  inside : IsInText l.self-inside.text.now l.self-inside.place l.self-inside.line;
  same : l.self-inside.text.now ≡ l.fn.self.text;
  reads : ReadsTokens l.fn.self.text l.fn.self.place [] l.self-inside.place;
}

abbrev pub decreases-loop-rest : goal.decreases-loop-rest
decreases-loop-rest l = length l.self-inside.text.now - l.self-inside.place
