use Rattle.std.proofs.Common.{◌≡◌, rules, to_z, of_z, w64}
use Rattle.dp_forms.proofs.ValueLemmas.{word_value}
use Rattle.dp_forms.proofs.operands.WordValue.value.Goals as goal

pub returns : goal.returns
returns g c = let same : to_z w64 (of_z w64 c.in_ok-index.index) ≡ c.in_ok-index.index = search rules in
    word_value _ same c.in_ok-index.ensures c.element.ensures
