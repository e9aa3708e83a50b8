-- What a cursor shows, and what it keeps ready.
use Rattle.std.specs.Prelude.{◌≡◌, ℕ, List, map, refl}
use Rattle.std.specs.Coded.{Coded, code_by, coded×, coded_ℕ, coded_list}
use Rattle.dp_lex.specs.contracts.TokenKind as kinds
use Rattle.dp_lex.specs.declared.TokenKind.{TokenKind}
use Rattle.dp_lex.specs.Token.{Lexeme}
use Rattle.dp_lex.specs.Tokens.{lexeme}
use Rattle.dp_tokens.specs.declared.tokens.Tokens.TheInside.{Inside}
use Rattle.dp_tokens.specs.Symbols.{symbol_at}

abbrev pub lexemes_code : Coded (List Lexeme)
lexemes_code = coded_list (code_by (TokenKind × (List ℕ × ℕ)) (coded× kinds.the_row.coded (coded× (coded_list coded_ℕ) coded_ℕ))
    (λ t. (t.kind, (t.text, t.line))) (λ p. record { kind = p.0; text = p.1.0; line = p.1.1 }) (λ _. refl))

abbrev pub tokens_left : Inside → List Lexeme
tokens_left t = map lexeme t.left.now

-- the symbol that comes next is known
abbrev pub KnowsNext : Inside → Type 0
KnowsNext t = t.next ≡ symbol_at (map lexeme t.left.now)
