-- How a token of each kind is spelled.
use Rattle.std.specs.Prelude.{◌≡◌, ◌<◌, ◌≤◌, false, true, List, ◌++◌, map, length, slice_index, codes, All, Contains}
use Rattle.std.specs.Char.{is_ascii_digit}
use Rattle.std.specs.Str.Parse.{digits_value}
use Rattle.dp_lex.specs.declared.TokenKind.{TokenKind}
use Rattle.dp_lex.specs.declared.TokenKind.TheVariants.{Name, Reserved, Number, Mark, Sign}
use Rattle.dp_lex.specs.declared.tables.TheConstants.{RESERVED, SIGNS}
use Rattle.dp_lex.specs.Characters.{Text, is_gap, is_letter, is_word}

-- the names of the program's start and of its output, and the keywords of C99
abbrev pub reserved_words : List Text
reserved_words = map (λ word. word.now) RESERVED

-- the signs of the language
abbrev pub signs : List Text
signs = map (λ sign. sign.now) SIGNS

-- a letter or `_`, then letters, digits and `_`, not a reserved word
pub record IsName (w : Text) : Type 0 where
  pub first : is_letter (slice_index w 0) ≡ true
  pub others : All (λ b. is_word b ≡ true) w
  pub free : ¬ Contains reserved_words w

-- `0`, or a digit from 1 to 9 followed by digits, with a value of at most 63 bits
pub record IsNumberText (w : Text) : Type 0 where
  pub some : 0 < length w
  pub digits : All (λ b. is_ascii_digit b ≡ true) w
  pub leading : slice_index w 0 ≡ 48 → length w ≡ 1
  pub value : digits_value 10 w ≤ 9223372036854775807

-- `#pragma`, one or more spaces or tabs, `dswp`
pub record IsMark (w : Text) : Type 0 where
  pub gap : Text
  pub some : 0 < length gap
  pub blanks : All (λ b. is_gap b ≡ true) gap
  pub spelled : w ≡ codes "#pragma" ++ (gap ++ codes "dswp")

-- the bytes spell a token of the kind
abbrev pub IsSpelled : TokenKind → Text → Type 0
IsSpelled Name w = IsName w
IsSpelled Reserved w = Contains reserved_words w
IsSpelled Number w = IsNumberText w
IsSpelled Mark w = IsMark w
IsSpelled Sign w = Contains signs w

-- a token of the kind may stand before the text: no letter, digit or `_` follows a number or a mark
abbrev pub MayPrecede : TokenKind → Text → Type 0
MayPrecede Number rest = is_word (slice_index rest 0) ≡ false
MayPrecede Mark rest = is_word (slice_index rest 0) ≡ false
MayPrecede Name rest = Unit {0}
MayPrecede Reserved rest = Unit {0}
MayPrecede Sign rest = Unit {0}
