use Rattle.std.proofs.Common.{◌≡◌, ◌∙◌, rules, to_z, of_z, w64}
use Rattle.dp_forms.proofs.ValueLemmas.{length_value}
use Rattle.dp_forms.proofs.operands.InputLenValue.value.Goals as goal

pub returns : goal.returns
returns g c = let same : to_z w64 (of_z w64 c.length_of.result) ≡ c.length_of.result = search rules in length_value (same ∙ c.length_of.ensures)
