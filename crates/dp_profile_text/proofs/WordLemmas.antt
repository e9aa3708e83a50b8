-- Lines with a word too many are none.
use Rattle.std.proofs.Common.{◌≡◌, ℕ, List, ◌∷◌, None, refl}
use Rattle.dp_text.specs.Words.{words}
use Rattle.dp_text.proofs.WordLemmas.{no_more}
use Rattle.dp_profile_text.specs.steps.LineWords.{region_line, runs_line, flow_line, head_line, end_line}

pub end_more : (text : List ℕ) → end_line (words text) ≡ None
end_more = no_more end_line (λ _ _. refl)

pub head_more : (a : List ℕ) (text : List ℕ) → head_line (a ∷ words text) ≡ None
head_more a = no_more (λ ws. head_line (a ∷ ws)) (λ _ _. refl)

pub region_more : (a : List ℕ) (text : List ℕ) → region_line (a ∷ words text) ≡ None
region_more a = no_more (λ ws. region_line (a ∷ ws)) (λ _ _. refl)

pub runs_more : (a b c : List ℕ) (text : List ℕ) → runs_line (a ∷ b ∷ c ∷ words text) ≡ None
runs_more a b c = no_more (λ ws. runs_line (a ∷ b ∷ c ∷ ws)) (λ _ _. refl)

pub flow_more : (a b c d : List ℕ) (text : List ℕ) → flow_line (a ∷ b ∷ c ∷ d ∷ words text) ≡ None
flow_more a b c d = no_more (λ ws. flow_line (a ∷ b ∷ c ∷ d ∷ ws)) (λ _ _. refl)
