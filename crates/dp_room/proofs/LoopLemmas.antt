-- A loop over a list carries a state.
use Rattle.std.proofs.Common.{◌≡◌, sym, ap, ◌∙◌, ℕ, ◌+◌, ◌<◌, ◌≤◌, List, [], ◌∷◌, length, get_or, drop}
use Rattle.std.proofs.lemmas.List.{at_drop_more, at_drop_all}

-- F goes over a list from a state: its value is that of the rest from the state after the first item
module _ {P A Q : Type 0} (F : P → List A → Q) (step : P → A → P) (more : (p : P) (a : A) (rest : List A) → F p (a ∷ rest) ≡ F (step p a) rest)
    (xs : List A) (i : ℕ) (p : P) (whole : Q) (so_far : whole ≡ F p (drop i xs)) where
  pub fold_more : (a : A) → i < length xs → a ≡ get_or xs i a → (q : P) → q ≡ step p a → whole ≡ F q (drop (i + 1) xs)
  fold_more a below is q moved =
      so_far ∙ at_drop_more (F p) xs i a below ∙ ap (λ y. F p (y ∷ drop (i + 1) xs)) (sym is) ∙ more p a (drop (i + 1) xs)
      ∙ ap (λ r. F r (drop (i + 1) xs)) (sym moved)

  pub fold_end : length xs ≤ i → whole ≡ F p []
  fold_end over = so_far ∙ at_drop_all (F p) xs i over
