-- The text of a batch: each input's text stands behind its number, in the inputs' order.
use Rattle.std.proofs.Common.{◌≡◌, refl, ℕ, ℤ, pos, List, [], ◌∷◌, codes}
use Rattle.std.specs.Fmt.{digits}
use Rattle.dp_text.specs.Labels.{labelled}
use Rattle.dp_batch.specs.BatchText.{texts_from}

-- a text that tells inputs apart
abbrev told : List ℤ → List ℕ
told [] = codes "none\n"
told (first ∷ rest) = codes "some\n"

two_inputs : texts_from told 9 ((pos 5 ∷ []) ∷ [] ∷ []) ≡ codes "input 9\nsome\ninput 10\nnone\n"
unfolding labelled digits
two_inputs = refl
