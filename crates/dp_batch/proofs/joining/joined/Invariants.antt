use Rattle.std.proofs.Common.{◌≡◌, ◌++◌, ℤ, ℕ, List, ◌+◌, drop}
use Rattle.dp_batch.specs.BatchText.{AreTexts, texts_from}
use Rattle.dp_batch.proofs.joining.joined.Given as goal

abbrev pub invariant-texts : goal.invariant-texts
invariant-texts l = (text : List ℤ → List ℕ) (inputs : List (List ℤ)) → AreTexts text inputs l.fn.texts →
    l.out ++ texts_from text (l.place + 1) (drop l.place inputs) ≡ texts_from text 1 inputs
