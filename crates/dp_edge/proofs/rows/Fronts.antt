-- What was written of a text of which a front was.
use Rattle.std.proofs.Common.{◌≡◌, sym, ap, ◌∙◌, append_assoc, ℕ, List, ◌++◌, Option, Some, None}
use Rattle.dp_edge.specs.Writing.{WritesFront}

-- nothing but the text's own bytes stands behind what was told before
the_rest_of_the_text_completes_it : (text told tells : List ℕ) → WritesFront text (Some told) (Some tells) → (rest : List ℕ) × (told ++ text ≡ tells ++ rest)
the_rest_of_the_text_completes_it text told tells w =
    let is : Some tells ≡ Some (told ++ w.front) = w.sink in
    let same : tells ≡ told ++ w.front = cc is in
    (w.rest, ap (λ (x : List ℕ). told ++ x) w.splits ∙ sym (append_assoc told w.front w.rest) ∙ ap (λ (x : List ℕ). x ++ w.rest) (sym same))

-- where nothing is told, nothing is told then
what_tells_nothing_stays_so : (text : List ℕ) (tells : Option (List ℕ)) → WritesFront text None tells → tells ≡ None
what_tells_nothing_stays_so text tells w = w.sink
