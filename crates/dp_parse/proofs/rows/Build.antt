-- Short texts as tokens: words with blanks between.
use Rattle.std.proofs.Common.{ℕ, ◌+◌, ◌==◌, if◌then◌else◌, List, [], ◌∷◌, ◌++◌, slice_index}
use Rattle.std.specs.Char.{is_ascii_digit}
use Rattle.dp_lex.specs.declared.TokenKind.{TokenKind}
use Rattle.dp_lex.specs.declared.TokenKind.TheVariants.{Name, Reserved, Number, Mark, Sign}
use Rattle.dp_lex.specs.Characters.{Text, is_letter}
use Rattle.dp_lex.specs.Spelling.{reserved_words}
use Rattle.dp_lex.specs.Scan.{is_one_of}
use Rattle.dp_lex.specs.Token.{Lexeme}

-- the kind of a word; a mark is written as `#` alone
abbrev kind_of : Text → TokenKind
kind_of w =
    if is_ascii_digit (slice_index w 0) then Number
    else (if slice_index w 0 == 35 then Mark
    else (if is_one_of reserved_words w then Reserved else (if is_letter (slice_index w 0) then Name else Sign)))

abbrev pub token : ℕ → Text → Lexeme
token line w = record { kind = kind_of w; text = w; line = line }

-- the token of a word, where there is one
abbrev ended : ℕ → Text → List Lexeme
ended line [] = []
ended line (b ∷ w) = token line (b ∷ w) ∷ []

-- the tokens of a text, the first word of which has begun so
abbrev split_from : ℕ → Text → Text → List Lexeme
split_from line w [] = ended line w
split_from line w (b ∷ text) =
    if b == 32 then ended line w ++ split_from line [] text
    else (if b == 10 then ended line w ++ split_from (line + 1) [] text else split_from line (w ++ b ∷ []) text)

abbrev pub split : Text → List Lexeme
split text = split_from 1 [] text
