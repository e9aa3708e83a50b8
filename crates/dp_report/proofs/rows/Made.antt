-- The words of the program that is made.
use Rattle.std.proofs.Common.{◌≡◌, refl, [], ◌∷◌, pos, length}
use Rattle.dp_report.specs.Generator.{made_text, words_after}

-- from the seed 1, whose first word has the rest 6 by 16
first_words : words_after 1 3 ≡ pos 1103527590 ∷ pos 377401575 ∷ pos 662824084 ∷ []
first_words = refl

-- from the greatest seed
greatest_seed : words_after 2147483647 2 ≡ pos 1043980748 ∷ pos 288979989 ∷ []
greatest_seed = refl

size : length made_text ≡ 319
unfolding made_text
size = refl
