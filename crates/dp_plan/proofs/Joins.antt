-- A list that grows.
use Rattle.std.proofs.Common.{◌≡◌, List, [], ◌∷◌, ◌++◌, sym, ap, ◌∙◌, append_assoc, append-nil}

module _ {X : Type 0} where
  -- so many items joined the whole
  pub joins_more : (old now next whole more rest : List X) → now ++ whole ≡ old → whole ≡ more ++ rest → next ≡ now ++ more → next ++ rest ≡ old
  joins_more old now next whole more rest so_far split grown =
      ap (λ l. l ++ rest) grown ∙ append_assoc now more rest ∙ ap (λ l. now ++ l) (sym split) ∙ so_far

  pub joins_all : (old now whole : List X) → now ++ whole ≡ old → whole ≡ [] → now ≡ old
  joins_all old now whole so_far none = sym (append-nil now) ∙ ap (λ l. now ++ l) (sym none) ∙ so_far

  pub item_and_two : (old one two three a b : List X) (x : X) → one ≡ old ++ x ∷ [] → two ≡ one ++ a → three ≡ two ++ b → three ≡ old ++ (x ∷ (a ++ b))
  item_and_two old one two three a b x p q r = r ∙ ap (λ l. l ++ b) (q ∙ ap (λ l. l ++ a) p) ∙ simp append_assoc

  pub item_and_one : (old one two a : List X) (x : X) → one ≡ old ++ x ∷ [] → two ≡ one ++ a → two ≡ old ++ (x ∷ a)
  item_and_one old one two a x p q = q ∙ ap (λ l. l ++ a) p ∙ append_assoc old (x ∷ []) a
