-- A token as contracts see it.
use Rattle.std.specs.Prelude.{ℕ, List}
use Rattle.dp_lex.specs.declared.TokenKind.{TokenKind}

-- what the token is, its bytes, and the line on which it begins
pub record Lexeme : Type 0 where
  pub kind : TokenKind
  pub text : List ℕ
  pub line : ℕ
