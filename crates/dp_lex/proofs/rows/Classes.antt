-- The members of each class of bytes, and of the tables of words and signs.
use Rattle.std.proofs.Common.{◌≡◌, refl, ℕ, zero, suc, List, [], ◌∷◌, ◌++◌, filter, codes}
use Rattle.std.specs.List.{flat_map}
use Rattle.dp_lex.specs.Characters.{Text, is_line_end, is_gap, is_white, is_letter, is_word}
use Rattle.dp_lex.specs.Spelling.{reserved_words, signs}

abbrev below : ℕ → List ℕ
below zero = []
below (suc n) = below n ++ n ∷ []

-- every byte, in order
abbrev bytes : List ℕ
bytes = below 256

line_ends : filter is_line_end bytes ≡ codes "\n"
line_ends = refl

gaps : filter is_gap bytes ≡ codes "\t "
gaps = refl

white_bytes : filter is_white bytes ≡ codes "\t\n\r "
white_bytes = refl

letters : filter is_letter bytes ≡ codes "ABCDEFGHIJKLMNOPQRSTUVWXYZ_abcdefghijklmnopqrstuvwxyz"
letters = refl

word_bytes : filter is_word bytes ≡ codes "0123456789ABCDEFGHIJKLMNOPQRSTUVWXYZ_abcdefghijklmnopqrstuvwxyz"
word_bytes = refl

-- the entries of a table in one line, each with a space behind it
abbrev in_one_line : List Text → Text
in_one_line = flat_map (λ entry. entry ++ codes " ")

all_reserved_words : in_one_line reserved_words
    ≡ codes "main print auto break case char const continue default do double else enum extern float for goto if inline int long register restrict return short signed sizeof static struct switch typedef union unsigned void volatile while _Bool _Complex _Imaginary "
all_reserved_words = refl

all_signs : in_one_line signs ≡ codes "++ -- + - * / % ! < <= > >= == != && || = ( ) [ ] { } , ; "
all_signs = refl
