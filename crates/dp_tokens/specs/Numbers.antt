-- A number read as a function.
use Rattle.std.specs.Prelude.{ℕ, ℤ, pos, neg_ℤ, nat_le, Bool, true, false, ◌&&◌, if◌then◌else◌, List, [], ◌∷◌, Option, Some, None, Ok}
use Rattle.std.specs.List.{list_all}
use Rattle.std.specs.Char.{is_ascii_digit}
use Rattle.std.specs.Str.Parse.{digits_value}
use Rattle.dp_base.specs.Arithmetic.{fits, is_zero}
use Rattle.dp_lex.specs.Token.{Lexeme}
use Rattle.dp_tokens.specs.declared.symbol.Symbol.TheVariants.{Number}
use Rattle.dp_tokens.specs.Symbols.{symbol}
use Rattle.dp_tokens.specs.Steps.{Parser, refuse, same_symbol, rest}

-- the value of the digits, if it is a token's
unfoldable pub number_value : List ℕ → Option ℤ
number_value digits =
    if list_all is_ascii_digit digits && nat_le (digits_value 10 digits) 9223372036854775807 then Some (pos (digits_value 10 digits)) else None

abbrev pub value_by : Bool → List ℕ → Option ℤ
value_by true digits = number_value digits
value_by false digits = None

-- the number that comes next, if one does
unfoldable pub number_in_front : List Lexeme → Option ℤ
number_in_front [] = None
number_in_front (t ∷ ts) = value_by (same_symbol (symbol t) Number) t.text

abbrev pub number_by : Option ℤ → Parser ℤ
number_by None = refuse
number_by (Some z) = λ ts. Ok (z, rest ts)

unfoldable pub number : Parser ℤ
number = λ ts. number_by (number_in_front ts) ts

abbrev pub zero_by : Option ℤ → Bool
zero_by None = false
zero_by (Some z) = is_zero z

-- whether the number 0 comes next
unfoldable pub sees_zero : List Lexeme → Bool
sees_zero ts = zero_by (number_in_front ts)

-- the number with its sign turned
unfoldable pub negated : ℤ → Option ℤ
negated z = if fits (neg_ℤ z) then Some (neg_ℤ z) else None
