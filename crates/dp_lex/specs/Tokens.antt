-- The tokens of a text, and the place at which a text is refused.
use Rattle.std.specs.Prelude.{◌≡◌, ℕ, ◌+◌, ◌≤◌, List, [], ◌∷◌, length, take, drop, Option, Some, None, Result, Ok, Err}
use Rattle.dp_base.specs.declared.limits.TheConstants.{PROGRAM_BYTES}
use Rattle.dp_lex.specs.declared.TokenKind.{TokenKind}
use Rattle.dp_lex.specs.declared.Token.{Token}
use Rattle.dp_lex.specs.declared.LexRefused.{LexRefused}
use Rattle.dp_lex.specs.Characters.{Text, line_ends}
use Rattle.dp_lex.specs.Token.{Lexeme}
use Rattle.dp_lex.specs.Front.{Skips, BeginsWithToken, IsStuck}

-- the line of a place, from 1
abbrev pub line_at : Text → ℕ → ℕ
line_at text place = 1 + line_ends (take place text)

-- From the place `start` on the text is read as the tokens, with white space and comments skipped, up to the place `end`.
pub data ReadsTokens (text : Text) : ℕ → List Lexeme → ℕ → Type 0 where
  stays : {start : ℕ} → ReadsTokens text start [] start
  skips : {start end : ℕ} {tokens : List Lexeme} (c : Text) → Skips (drop start text) c → ReadsTokens text (start + length c) tokens end →
      ReadsTokens text start tokens end
  takes : {start end : ℕ} {tokens : List Lexeme} (kind : TokenKind) (w : Text) → BeginsWithToken (drop start text) kind w →
      ReadsTokens text (start + length w) tokens end → ReadsTokens text start (record { kind = kind; text = w; line = line_at text start } ∷ tokens) end

-- the tokens of a whole text, in order
abbrev pub Tokens : Text → List Lexeme → Type 0
Tokens text tokens = ReadsTokens text 0 tokens (length text)

-- the text is refused at the place, at which no token begins: before it stand tokens, white space and comments
pub record RefusedAt (text : Text) (place : ℕ) : Type 0 where
  pub before : List Lexeme
  pub reads : ReadsTokens text 0 before place
  pub stuck : IsStuck (drop place text)

-- a lexer stands at a place of its text
pub record Reading : Type 0 where
  pub text : Text
  pub place : ℕ

-- a lexer's place and line belong to its text
pub record IsInText (text : Text) (place line : ℕ) : Type 0 where
  pub short : length text ≤ PROGRAM_BYTES
  pub inside : place ≤ length text
  pub counted : line ≡ line_at text place

-- a token as contracts see it
abbrev pub lexeme : Token → Lexeme
lexeme t = record { kind = t.kind; text = t.text.now; line = t.line }

-- What a lexer gives next, and where it stands then: the next token; nothing, at the end; a refusal, at the place of it.
abbrev pub IsNextToken : Reading → Result (Option Token) LexRefused → Reading → Type 0
IsNextToken from (Ok (Some t)) to = ReadsTokens from.text from.place (lexeme t ∷ []) to.place
IsNextToken from (Ok None) to = ReadsTokens from.text from.place [] to.place × (to.place ≡ length from.text)
IsNextToken from (Err refused) to = ReadsTokens from.text from.place [] to.place × IsStuck (drop to.place from.text) × (to.place ≡ refused.place)

-- no token comes with the answer: it is the end or a refusal
abbrev pub IsLastAnswer : Result (Option Token) LexRefused → Type 0
IsLastAnswer (Ok (Some t)) = ⊥
IsLastAnswer (Ok None) = Unit {0}
IsLastAnswer (Err refused) = Unit {0}
