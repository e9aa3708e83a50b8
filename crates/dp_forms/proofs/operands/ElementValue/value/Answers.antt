use Rattle.std.proofs.Common.{◌≡◌, rules, to_z, of_z, w64}
use Rattle.dp_forms.proofs.ValueLemmas.{element_value}
use Rattle.dp_forms.proofs.operands.ElementValue.value.Goals as goal

pub returns : goal.returns
returns g c = let same : to_z w64 (of_z w64 c.in_ok-index.index) ≡ c.in_ok-index.index = search rules in
    element_value _ _ _ same c.in_ok-index.ensures c.cell.ensures
