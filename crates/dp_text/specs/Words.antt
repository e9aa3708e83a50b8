-- The words between the spaces of a line, and the number that a word writes.
use Rattle.std.specs.Prelude.{ℕ, ◌==◌, if◌then◌else◌, Bool, true, false, not, List, [], ◌∷◌, ◌++◌, Option, Some, None}
use Rattle.dp_text.specs.Digits.{value_upto}
use Rattle.dp_text.specs.Pieces.{pieces}

-- what stands before, between and after the spaces, some of it empty
abbrev pub words : List ℕ → List (List ℕ)
words = pieces (λ byte. byte == 32)

-- the words of what follows a space, if one was there
abbrev pub words_behind : Option (List ℕ) → List (List ℕ)
words_behind None = []
words_behind (Some text) = words text

-- words with single spaces between
abbrev pub joined_words : List (List ℕ) → List ℕ
joined_words [] = []
joined_words (word ∷ []) = word
joined_words (word ∷ next ∷ rest) = word ++ 32 ∷ joined_words (next ∷ rest)

-- there is a byte, and the first of several isn't 0
abbrev pub is_plain_digits : List ℕ → Bool
is_plain_digits [] = false
is_plain_digits (byte ∷ []) = true
is_plain_digits (byte ∷ next ∷ rest) = not (byte == 48)

-- the number that a word writes without leading zeros, where it is at most `most`
abbrev pub number_upto : ℕ → List ℕ → Option ℕ
number_upto most word = if is_plain_digits word then value_upto most word else None

-- the same, where it has 32 bits
abbrev pub small_number : List ℕ → Option ℕ
small_number word = number_upto 4294967295 word
