-- Lines with a word too many are none.
use Rattle.std.proofs.Common.{◌≡◌, ℕ, List, ◌∷◌, None, refl}
use Rattle.dp_text.specs.Words.{words}
use Rattle.dp_text.proofs.WordLemmas.{no_more}
use Rattle.dp_plan_text.specs.steps.LineWords.{region_line, assume_line, head_line, end_line}

pub end_more : (text : List ℕ) → end_line (words text) ≡ None
end_more = no_more end_line (λ _ _. refl)

pub head_more : (a : List ℕ) (text : List ℕ) → head_line (a ∷ words text) ≡ None
head_more a = no_more (λ ws. head_line (a ∷ ws)) (λ _ _. refl)

pub assume_more : (a b : List ℕ) (text : List ℕ) → assume_line (a ∷ b ∷ words text) ≡ None
assume_more a b = no_more (λ ws. assume_line (a ∷ b ∷ ws)) (λ _ _. refl)

pub region_more : (a b c : List ℕ) (text : List ℕ) → region_line (a ∷ b ∷ c ∷ words text) ≡ None
region_more a b c = no_more (λ ws. region_line (a ∷ b ∷ c ∷ ws)) (λ _ _. refl)
