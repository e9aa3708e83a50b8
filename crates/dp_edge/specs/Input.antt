-- The text of an input: numbers between blanks.
use Rattle.std.specs.Prelude.{◌≡◌, ℕ, ◌+◌, min, Bool, ◌&&◌, ◌||◌, if◌then◌else◌, nat_le, ◌==◌, List, [], ◌∷◌, length, Option, Some, None, Result, Ok, Err, ℤ}
use Rattle.std.specs.Prelude.{pos, neg_ℤ}
use Rattle.std.specs.List.{filter}
use Rattle.dp_base.specs.Arithmetic.{fits}
use Rattle.dp_text.specs.Pieces.{pieces}
use Rattle.dp_base.specs.declared.limits.TheConstants.{COUNTED, INPUT_WORDS}
use Rattle.dp_edge.specs.Digits.{is_full, are_digits, digits_worth}
use Rattle.dp_edge.specs.declared.input.InputFail.{InputFail}
use Rattle.dp_edge.specs.declared.input.InputFail.TheVariants.{TooMany, Refused, NoMemory}

-- a space, a tab, a CR or an LF
abbrev pub is_blank : ℕ → Bool
is_blank byte = byte == 32 || byte == 9 || byte == 13 || byte == 10

-- the words of a text: its pieces between blanks that have a byte, in order
abbrev pub input_words : List ℕ → List (List ℕ)
input_words text = filter is_full (pieces is_blank text)

-- the number that one or more digits write, with a sign, where it lies in 64 bits
abbrev pub signed_number : (ℕ → ℤ) → List ℕ → Option ℤ
signed_number sign digits =
    if are_digits digits && fits (sign (digits_worth digits)) then Some (sign (digits_worth digits)) else None

-- the number that a word stands for: an optional `-` and one or more digits, with a value of 64 bits
abbrev pub number_written : List ℕ → Option ℤ
number_written [] = None
number_written (byte ∷ rest) = if byte == 45 then signed_number (λ n. neg_ℤ (pos n)) rest else signed_number pos (byte ∷ rest)

-- a number, or the refusal of the word at a place, before what the later words give
abbrev pub number_before : Option ℤ → ℕ → Result (List ℤ) InputFail → Result (List ℤ) InputFail
number_before None place later = Err (Refused place)
number_before (Some number) place (Ok numbers) = Ok (number ∷ numbers)
number_before (Some number) place (Err fail) = Err fail

-- the numbers of all words, the first of which stands at a place; or the refusal of the first word that is no number
abbrev pub numbers_at : ℕ → List (List ℕ) → Result (List ℤ) InputFail
numbers_at place [] = Ok []
numbers_at place (word ∷ input_words) = number_before (number_written word) place (numbers_at (place + 1) input_words)

-- What a text is read as: too many words come before a word that is no number, and are counted as far as counts
-- are reported. Words are counted from 1.
abbrev pub numbers_of : List ℕ → Result (List ℤ) InputFail
numbers_of text = if nat_le (length (input_words text)) INPUT_WORDS then numbers_at 1 (input_words text)
    else Err (TooMany (min (length (input_words text)) COUNTED))

-- the answer is the wanted one, or want of memory
abbrev pub AnswersInput : Result (List ℤ) InputFail → Result (List ℤ) InputFail → Type 0
AnswersInput (Ok numbers) wanted = wanted ≡ Ok numbers
AnswersInput (Err (TooMany count)) wanted = wanted ≡ Err (TooMany count)
AnswersInput (Err (Refused word)) wanted = wanted ≡ Err (Refused word)
AnswersInput (Err NoMemory) wanted = Unit {0}
