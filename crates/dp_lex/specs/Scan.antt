-- What the lexer's own functions compute at the front of a text. What a text's tokens are is said without it, in Front and Tokens.
use Rattle.std.specs.Prelude.{ℕ, ◌+◌, Bool, true, false, not, ◌&&◌, ◌||◌, ◌==◌, if◌then◌else◌, nat_le, nat_lt, List, [], ◌∷◌, take, drop, length, slice_index}
use Rattle.std.specs.Prelude.{Option, Some, None, codes}
use Rattle.std.specs.Char.{is_ascii_digit}
use Rattle.std.specs.List.{prefix_len, list_any}
use Rattle.std.specs.Str.{bytes_eq}
use Rattle.std.specs.Str.Parse.{digits_value}
use Rattle.dp_lex.specs.declared.TokenKind.{TokenKind}
use Rattle.dp_lex.specs.declared.TokenKind.TheVariants.{Name, Reserved, Number, Mark, Sign}
use Rattle.dp_lex.specs.declared.front.Class.{Class}
use Rattle.dp_lex.specs.declared.front.Class.TheVariants as class
use Rattle.dp_lex.specs.Characters.{Text, is_gap, is_white, is_letter, is_word, is_line_end}
use Rattle.dp_lex.specs.Spelling.{reserved_words, signs}

-- the byte is of the class
abbrev pub is_in : Class → ℕ → Bool
is_in class.Gap = is_gap
is_in class.Digit = is_ascii_digit
is_in class.Word = is_word
is_in class.Comment = λ b. not (is_line_end b)

-- a token's kind, and its length in bytes
abbrev pub Found : Type 0
Found = Option (TokenKind × ℕ)

-- the word is one of the table's
unfoldable pub is_one_of : List Text → Text → Bool
is_one_of table word = list_any (λ entry. bytes_eq entry word) table

-- ---- white space and comments

-- a comment opens at the front
unfoldable pub opens_comment : Text → Bool
opens_comment z = slice_index z 0 == 47 && (slice_index z 1 == 47 || slice_index z 1 == 42)

-- `*/` stands at the place
abbrev pub closes_comment : Text → ℕ → Bool
closes_comment z at = slice_index z at == 42 && slice_index z (at + 1) == 47

-- 2 where the text begins with `*/`, or else one more than in the rest
abbrev pub closing_or : Bool → Option ℕ → Option ℕ
closing_or true n = Some 2
closing_or false None = None
closing_or false (Some n) = Some (n + 1)

-- the length up to the first `*/` and with it, if there is one
unfoldable pub closing : Text → Option ℕ
closing [] = None
closing (b ∷ z) = closing_or (closes_comment (b ∷ z) 0) (closing z)

-- the length of a comment between `/*` and `*/`, or 0 if it is not closed
abbrev pub block_len : Option ℕ → ℕ
block_len None = 0
block_len (Some n) = 2 + n

-- how many bytes are skipped at the front: one of white space, a comment, or none
unfoldable pub skipped : Text → ℕ
skipped z =
    if is_white (slice_index z 0) then 1
    else (if not (opens_comment z) then 0
    else (if slice_index z 1 == 47 then prefix_len (is_in class.Comment) z else block_len (closing (drop 2 z))))

-- ---- tokens

-- a name or a reserved word
unfoldable pub word : Text → Found
word z =
    let n = prefix_len is_word z in
    Some (if is_one_of reserved_words (take n z) then Reserved else Name, n)

-- the digits are worth at most the largest number
unfoldable pub fits_number : Text → Bool
fits_number w = nat_le (digits_value 10 w) 9223372036854775807

-- `0`, or digits of which the first isn't `0`
abbrev pub is_plain_number : Text → Bool
is_plain_number w = length w == 1 || not (slice_index w 0 == 48)

unfoldable pub number_scanned : Text → Found
number_scanned z =
    let n = prefix_len is_ascii_digit z in
    if is_plain_number (take n z) && fits_number (take n z) && not (is_word (slice_index z n)) then Some (Number, n) else None

-- `#pragma` stands at the front
unfoldable pub is_pragma : Text → Bool
is_pragma z = bytes_eq (codes "#pragma") (take 7 z)

-- `dswp` stands at the front, and no letter, digit or `_` after it
unfoldable pub is_named : Text → Bool
is_named z = bytes_eq (codes "dswp") (take 4 z) && not (is_word (slice_index z 4))

unfoldable pub mark : Text → Found
mark z =
    let n = prefix_len is_gap (drop 7 z) in
    if is_pragma z && (nat_lt 0 n && is_named (drop n (drop 7 z))) then Some (Mark, 11 + n) else None

unfoldable pub sign : Text → Found
sign z =
    if nat_le 2 (length z) && is_one_of signs (take 2 z) then Some (Sign, 2)
    else (if is_one_of signs (take 1 z) then Some (Sign, 1) else None)

-- the token at the front, if one begins there
unfoldable pub front : Text → Found
front z =
    if opens_comment z then None
    else (if is_letter (slice_index z 0) then word z
    else (if is_ascii_digit (slice_index z 0) then number_scanned z
    else (if slice_index z 0 == 35 then mark z
    else sign z)))
