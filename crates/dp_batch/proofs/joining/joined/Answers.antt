use Rattle.std.proofs.Common.{◌≡◌, ◌++◌, subst, ℕ, List, Result, IsOkAnd, ◌+◌, get_or}
use Rattle.dp_room.specs.declared.NoMemory.{NoMemory}
use Rattle.dp_batch.specs.BatchText.{input_line, texts_from}
use Rattle.dp_batch.proofs.TextLemmas.{beside, grew, whole_text}
use Rattle.dp_batch.proofs.joining.joined.Goals as goal

pub texts-preserved : goal.texts-preserved
texts-preserved c text inputs are =
    let place = c.texts.place in let made = c.index-texts-place.result in
    let put : IsOkAnd (get_or c.args.texts.now c.texts.place c.index-texts-place.result) (λ (bytes : List ℕ). c.put_text.new.out ≡ c.texts.out
    ++ (input_line (c.texts.place + 1) ++ bytes)) =
    subst (λ (m : Result (List ℕ) NoMemory). IsOkAnd m (λ (bytes : List ℕ). c.put_text.new.out ≡ c.texts.out ++ (input_line (c.texts.place + 1) ++ bytes)))
    c.index-texts-place.is c.in_ok-put_text.ensures in
    grew text inputs place (get_or c.args.texts.now place made) c.texts.out c.put_text.new.out (texts_from text 1 inputs)
    (beside text inputs c.args.texts.now place made are c.texts-test.true) put (c.texts.invariant text inputs are)

pub returns : goal.returns
returns c text inputs are =
    whole_text text inputs c.args.texts.now c.texts.place c.texts.out (texts_from text 1 inputs) are c.texts-test.false (c.texts.invariant text inputs are)
