-- A part of a program read as a function: what the front of the tokens gives, and what is left, or else the tokens
-- from the first one on that stands where nothing fits. The laws of `proofs` tie it to the grammar.
use Rattle.std.specs.Prelude.{◌≡◌, ℕ, zero, suc, Bool, true, false, if◌then◌else◌, List, [], ◌∷◌, ◌++◌, Option, Some, None, Result, Ok, Err}
use denote.Enum.Bare.{sameb}
use Rattle.dp_lex.specs.Token.{Lexeme}
use Rattle.dp_tree.specs.declared.raw.Name.{Name as TreeName}
use Rattle.dp_tokens.specs.declared.symbol.Symbol.{Symbol}
use Rattle.dp_tokens.specs.declared.symbol.Symbol.TheVariants.{Name, Comma}
use Rattle.dp_tokens.specs.declared.fail.PartFail.{PartFail}
use Rattle.dp_tokens.specs.declared.fail.PartFail.TheVariants.{Refused}
use Rattle.dp_tokens.specs.Symbols.{symbol, symbol_at}
use Rattle.dp_tokens.specs.Leaves.{name_of}
use Rattle.dp_tokens.specs.contracts.symbol.Symbol as symbols

abbrev pub Outcome : Type 0 → Type 0
Outcome A = Result (A × List Lexeme) (List Lexeme)

abbrev pub Parser : Type 0 → Type 0
Parser A = List Lexeme → Outcome A

abbrev pub parse_then : {A B : Type 0} → Outcome A → (A → Parser B) → Outcome B
parse_then (Ok p) f = f p.0 p.1
parse_then (Err left) f = Err left

infixl 10 ◌>>=◌
abbrev pub ◌>>=◌ : {A B : Type 0} → Parser A → (A → Parser B) → Parser B
p >>= f = λ ts. parse_then (p ts) f

infixl 10 ◌>>◌
abbrev pub ◌>>◌ : {A B : Type 0} → Parser A → Parser B → Parser B
p >> q = p >>= (λ _. q)

abbrev pub pure : {A : Type 0} → A → Parser A
pure a = λ ts. Ok (a, ts)

infixr 11 ◌<$>◌
abbrev pub ◌<$>◌ : {A B : Type 0} → (A → B) → Parser A → Parser B
f <$> p = p >>= (λ x. pure (f x))

abbrev pub refuse : {A : Type 0} → Parser A
refuse = λ ts. Err ts

-- what a function that parses ensures: the outcome, unless memory fails. Where it refuses, its tokens are left
-- from the first one on that stands where nothing fits.
abbrev pub ReadsPart : {A : Type 0} → Outcome A → Result A PartFail → List Lexeme → Type 0
ReadsPart outcome (Ok a) new = outcome ≡ Ok (a, new)
ReadsPart outcome (Err e) new = e ≡ Refused → outcome ≡ Err new

-- `==` on symbols
unfoldable pub same_symbol : Symbol → Symbol → Bool
same_symbol = sameb symbols.the_type

abbrev pub peek : Parser Symbol
peek = λ ts. Ok (symbol_at ts, ts)

unfoldable pub rest : List Lexeme → List Lexeme
rest [] = []
rest (t ∷ ts) = ts

-- passes the next token
abbrev pub advance : Parser (Unit {0})
advance = λ ts. Ok (tt, rest ts)

unfoldable pub sees_symbol : Symbol → List Lexeme → Bool
sees_symbol s ts = same_symbol (symbol_at ts) s

unfoldable pub after : Symbol → List Lexeme → List Lexeme
after s ts = if sees_symbol s ts then rest ts else ts

-- passes the next token where it is the symbol
abbrev pub eat : Symbol → Parser Bool
eat s = λ ts. Ok (sees_symbol s ts, after s ts)

-- takes the next token, which has to be the symbol
unfoldable pub expect : Symbol → Parser Lexeme
expect s [] = Err []
expect s (t ∷ ts) = if same_symbol (symbol t) s then Ok (t, ts) else Err (t ∷ ts)

unfoldable pub name : Parser TreeName
name = name_of <$> expect Name

abbrev pub given : {A : Type 0} → Option A → Parser A
given None = refuse
given (Some a) = pure a

-- ---- lists. The number bounds the turns, and each turn takes a token, so that the count of tokens is enough.

abbrev pub separated_by : {A : Type 0} → (List A → Parser (List A)) → List A → Bool → Parser (List A)
separated_by again found true = again found
separated_by again found false = pure found

-- one or more, with commas between
unfoldable pub separated : {A : Type 0} → Parser A → ℕ → List A → Parser (List A)
separated item zero found = refuse
separated item (suc n) found = item >>= (λ x. eat Comma >>= separated_by (separated item n) (found ++ x ∷ []))

abbrev pub many_by : {A : Type 0} → Parser A → (List A → Parser (List A)) → List A → Bool → Parser (List A)
many_by item again found true = pure found
many_by item again found false = item >>= (λ x. again (found ++ x ∷ []))

-- any number, up to tokens that pass the test
unfoldable pub many : {A : Type 0} → (List Lexeme → Bool) → Parser A → ℕ → List A → Parser (List A)
many stops item zero found = refuse
many stops item (suc n) found = λ ts. many_by item (many stops item n) found (stops ts) ts
