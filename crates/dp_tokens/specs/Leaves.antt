-- Names and numbers.
use Rattle.std.specs.Prelude.{◌≡◌, ℕ, ◌≤◌}
use Rattle.std.specs.List.{AllPass}
use Rattle.std.specs.Char.{is_ascii_digit}
use Rattle.std.specs.Str.Parse.{digits_value}
use Rattle.dp_lex.specs.Token.{Lexeme}
use Rattle.dp_tree.specs.declared.raw.Name.{Name}
use Rattle.dp_tokens.specs.declared.symbol.Symbol.TheVariants.{Number}
use Rattle.dp_tokens.specs.Symbols.{Is}

-- a name with the line of its token
abbrev pub name_of : Lexeme → Name
name_of t = record { text = t.text; line = t.line }

-- the token is a number with this value, of at most 63 bits
pub record IsNumber (t : Lexeme) (n : ℕ) : Type 0 where
  pub number : Is Number t
  pub digits : AllPass is_ascii_digit t.text
  pub value : digits_value 10 t.text ≡ n
  pub fits : n ≤ 9223372036854775807
