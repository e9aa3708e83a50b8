-- The three counts over the tokens of a program that bound how deep its parts nest.
use Rattle.std.specs.Prelude.{ℕ, ◌+◌, ◌-◌, max, Bool, true, false, ◌&&◌, if◌then◌else◌, List, [], ◌∷◌, map, count_by, nat_lt, Option, Some, None}
use Rattle.dp_base.specs.declared.Quantity.{Quantity}
use Rattle.dp_base.specs.declared.Quantity.TheVariants.{Nesting, Operators, ElseIf}
use Rattle.dp_base.specs.declared.limits.TheConstants.{ELSE_IF, NESTING, OPERATORS}
use Rattle.dp_lex.specs.Token.{Lexeme}
use Rattle.dp_tokens.specs.declared.symbol.Symbol.{Symbol}
use Rattle.dp_tokens.specs.declared.symbol.Symbol.TheVariants.{If, Else, Plus, Minus, Star, Slash, Percent, Not, Less, LessEqual, Greater, GreaterEqual, Equal}
use Rattle.dp_tokens.specs.declared.symbol.Symbol.TheVariants.{NotEqual, And, Or, OpenParen, OpenBracket, OpenBrace, CloseBrace, Semicolon}
use Rattle.dp_tokens.specs.Symbols.{symbol}

abbrev pub opens : Symbol → Bool
opens OpenBrace = true
opens _ = false

abbrev pub closes_brace : Symbol → Bool
closes_brace CloseBrace = true
closes_brace _ = false

-- an operator or an opening bracket
abbrev pub operates : Symbol → Bool
operates Plus = true
operates Minus = true
operates Star = true
operates Slash = true
operates Percent = true
operates Not = true
operates Less = true
operates LessEqual = true
operates Greater = true
operates GreaterEqual = true
operates Equal = true
operates NotEqual = true
operates And = true
operates Or = true
operates OpenParen = true
operates OpenBracket = true
operates _ = false

abbrev pub separates : Symbol → Bool
separates OpenBrace = true
separates CloseBrace = true
separates Semicolon = true
separates _ = false

abbrev pub is_if : Symbol → Bool
is_if If = true
is_if _ = false

abbrev pub is_else : Symbol → Bool
is_else Else = true
is_else _ = false

abbrev pub largest : List ℕ → ℕ
largest [] = 0
largest (n ∷ ns) = max n (largest ns)

-- the fronts of a list, from the empty one to the whole
abbrev pub fronts : List Symbol → List (List Symbol)
fronts [] = [] ∷ []
fronts (s ∷ ss) = [] ∷ map (λ front. s ∷ front) (fronts ss)

abbrev pub before_first : Bool → Symbol → List (List Symbol) → List (List Symbol)
before_first true s symbol_pieces = [] ∷ symbol_pieces
before_first false s [] = (s ∷ []) ∷ []
before_first false s (piece ∷ symbol_pieces) = (s ∷ piece) ∷ symbol_pieces

-- the pieces between neighbouring separators, with the start and the end of the list as such
abbrev pub symbol_pieces : List Symbol → List (List Symbol)
symbol_pieces [] = [] ∷ []
symbol_pieces (s ∷ ss) = before_first (separates s) s (symbol_pieces ss)

-- the number of braces that are open after the front
abbrev pub open_after : List Symbol → ℕ
open_after front = count_by opens front - count_by closes_brace front

abbrev pub begins_if : List Symbol → Bool
begins_if [] = false
begins_if (s ∷ ss) = is_if s

-- the most braces that are open at a place
unfoldable pub nesting : List Lexeme → ℕ
nesting tokens = largest (map open_after (fronts (map symbol tokens)))

-- the number of operators since the last separator, after one more symbol
abbrev pub operators_after : ℕ → Symbol → ℕ
operators_after here s = if separates s then 0 else (if operates s then here + 1 else here)

-- the most operators and opening brackets between neighbouring separators
unfoldable pub operators : List Lexeme → ℕ
operators tokens = largest (map (count_by operates) (symbol_pieces (map symbol tokens)))

abbrev pub else_ifs : List Symbol → ℕ
else_ifs [] = 0
else_ifs (s ∷ ss) = (if is_else s && begins_if ss then 1 else 0) + else_ifs ss

-- the number of `else` that an `if` follows
unfoldable pub else_if : List Lexeme → ℕ
else_if tokens = else_ifs (map symbol tokens)

abbrev pub above : Quantity → ℕ → ℕ → Option (Quantity × ℕ) → Option (Quantity × ℕ)
above quantity most count otherwise = if nat_lt most count then Some (quantity, count) else otherwise

-- the first count that is above its limit: open braces, operators, `else if`
unfoldable pub depth_fault : List Lexeme → Option (Quantity × ℕ)
depth_fault tokens = above Nesting NESTING (nesting tokens) (above Operators OPERATORS (operators tokens) (above ElseIf ELSE_IF (else_if tokens) None))
