-- Lines with a word too many are none.
use Rattle.std.proofs.Common.{◌≡◌, ℕ, false, List, ◌∷◌, None, refl}
use Rattle.dp_text.specs.Words.{words}
use Rattle.dp_text.proofs.WordLemmas.{some_word, no_more}
use Rattle.dp_save.specs.steps.LineWords.{before_colon, count_in, counted, end_line, is_version, place_of}

pub end_more : (text : List ℕ) → end_line (words text) ≡ None
end_more = no_more end_line (λ _ _. refl)

pub place_more : (a b c d e f g : List ℕ) (text : List ℕ) → place_of (a ∷ b ∷ c ∷ d ∷ e ∷ f ∷ g ∷ words text) ≡ None
place_more a b c d e f g = no_more (λ ws. place_of (a ∷ b ∷ c ∷ d ∷ e ∷ f ∷ g ∷ ws)) (λ _ _. refl)

pub version_more : (a : List ℕ) (text : List ℕ) → is_version (a ∷ words text) ≡ false
version_more a = some_word (λ ws. is_version (a ∷ ws) ≡ false) (λ _ _. refl)

-- numbers stand behind the count
pub counted_more : (word : List ℕ) (text : List ℕ) → counted word (words text) ≡ count_in (before_colon word)
counted_more word = some_word (λ ws. counted word ws ≡ count_in (before_colon word)) (λ _ _. refl)
