-- The terminal symbols of the grammar: how each is spelled, and which one a token is.
use Rattle.std.specs.Prelude.{◌≡◌, ℕ, List, [], ◌∷◌, map, if◌then◌else◌}
use Rattle.std.specs.Str.{bytes_eq}
use Rattle.dp_lex.specs.declared.TokenKind.{TokenKind}
use Rattle.dp_lex.specs.declared.TokenKind.TheVariants as kind
use Rattle.dp_lex.specs.Token.{Lexeme}
use Rattle.dp_tokens.specs.declared.symbol.TheConstants.{WORDS, SIGNS}
use Rattle.dp_tokens.specs.declared.symbol.Symbol.{Symbol}
use Rattle.dp_tokens.specs.declared.symbol.Symbol.TheVariants.{Name, Number, Mark, Other, End}

abbrev pub Spellings : Type 0
Spellings = List (List ℕ × Symbol)

-- the reserved words that the grammar uses
abbrev pub grammar_words : Spellings
grammar_words = map (λ entry. (entry.0.now, entry.1)) WORDS

-- the signs that the grammar uses
abbrev pub grammar_signs : Spellings
grammar_signs = map (λ entry. (entry.0.now, entry.1)) SIGNS

-- the symbol that the table spells so, if any
abbrev pub spelled : Spellings → List ℕ → Symbol
spelled [] text = Other
spelled (entry ∷ table) text = if bytes_eq entry.0 text then entry.1 else spelled table text

abbrev pub symbol_by : TokenKind → List ℕ → Symbol
symbol_by kind.Name text = Name
symbol_by kind.Number text = Number
symbol_by kind.Mark text = Mark
symbol_by kind.Reserved text = spelled grammar_words text
symbol_by kind.Sign text = spelled grammar_signs text

-- the symbol that a token is
unfoldable pub symbol : Lexeme → Symbol
symbol t = symbol_by t.kind t.text

-- the symbol that the first token is
unfoldable pub symbol_at : List Lexeme → Symbol
symbol_at [] = End
symbol_at (t ∷ ts) = symbol t

-- the token is this symbol
abbrev pub Is : Symbol → Lexeme → Type 0
Is s t = symbol t ≡ s
