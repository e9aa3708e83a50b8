use Rattle.std.proofs.Common.{◌≡◌, rules, to_z, of_z, w64}
use Rattle.dp_forms.proofs.ValueLemmas.{binary_value}
use Rattle.dp_forms.proofs.arithmetic.BinaryValue.value.Goals as goal

pub returns : goal.returns
returns g c = let same : to_z w64 (of_z w64 c.in_ok-a.a) ≡ c.in_ok-a.a = search rules in
    let equal : to_z w64 (of_z w64 c.in_ok-b.b) ≡ c.in_ok-b.b = search rules in binary_value _ _ same equal c.in_ok-a.ensures c.in_ok-b.ensures c.apply.ensures
