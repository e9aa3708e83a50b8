-- Input texts read word by word.
use Rattle.std.proofs.Common.{◌≡◌, refl, ℕ, ◌-◌, ◌^◌, List, [], ◌∷◌, ℤ, pos, negsuc, ◌++◌, Some, None, Result, Ok, Err, codes}
use Rattle.dp_text.specs.Digits.{digit_after}
use Rattle.dp_edge.specs.Digits.{magnitude_of}
use Rattle.dp_edge.specs.Input.{input_words, number_written, numbers_of, AnswersInput}
use Rattle.dp_edge.specs.declared.input.InputFail.{InputFail}
use Rattle.dp_edge.specs.declared.input.InputFail.TheVariants.{TooMany, Refused}

-- each of the four blanks parts words, and no other byte does
blanks : input_words (codes " 1\t\t-2\r3\n" ++ 11 ∷ 52 ∷ 12 ∷ 0 ∷ []) ≡ codes "1" ∷ codes "-2" ∷ codes "3" ∷ (11 ∷ 52 ∷ 12 ∷ 0 ∷ []) ∷ []
blanks = refl

no_word : numbers_of (codes " \t\r\n") ≡ Ok []
no_word = refl

read : numbers_of (codes "007 -3 -0\n10") ≡ Ok (pos 7 ∷ negsuc 2 ∷ pos 0 ∷ pos 10 ∷ [])
read = refl

-- the bytes right before `0` and right behind `9` are no digits
beside_the_digits : (number_written (codes "1/") ≡ None) × (number_written (codes "1:") ≡ None)
beside_the_digits = (refl, refl)

greatest : (number_written (codes "9223372036854775807") ≡ Some (pos 9223372036854775807)) × (number_written (codes "9223372036854775808") ≡ None)
greatest = (refl, refl)

least : (number_written (codes "-9223372036854775808") ≡ Some (negsuc 9223372036854775807)) × (number_written (codes "-9223372036854775809") ≡ None)
least = (refl, refl)

signs : (number_written (codes "-") ≡ None) × (number_written (codes "--5") ≡ None) × (number_written (codes "+5") ≡ None)
signs = (refl, refl, refl)

-- the first of two faulty words is refused, at its place from 1
second_word : numbers_of (codes "8 x 9 y") ≡ Err (Refused 2)
second_word = refl

-- the answer is the text's, and no other one
given : (numbers : List ℤ) (wanted : Result (List ℤ) InputFail) → AnswersInput (Ok numbers) wanted → wanted ≡ Ok numbers
given numbers wanted e = e

counted : (count : ℕ) (wanted : Result (List ℤ) InputFail) → AnswersInput (Err (TooMany count)) wanted → wanted ≡ Err (TooMany count)
counted count wanted e = e

refused : (word : ℕ) (wanted : Result (List ℤ) InputFail) → AnswersInput (Err (Refused word)) wanted → wanted ≡ Err (Refused word)
refused word wanted e = e

-- the digits of a number without a sign
twelve : digit_after (2 ^ 64 - 1) 1 50 ≡ Some 12
twelve = refl

last_digit : (digit_after (2 ^ 64 - 1) 1844674407370955161 53 ≡ Some 18446744073709551615) × (digit_after (2 ^ 64 - 1) 1844674407370955161 54 ≡ None)
last_digit = (refl, refl)

greatest_without_a_sign : (magnitude_of (codes "18446744073709551615") ≡ Some 18446744073709551615) × (magnitude_of (codes "18446744073709551616") ≡ None)
greatest_without_a_sign = (refl, refl)

no_digit : magnitude_of [] ≡ None
no_digit = refl
