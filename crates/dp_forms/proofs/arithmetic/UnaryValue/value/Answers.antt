use Rattle.std.proofs.Common.{◌≡◌, rules, to_z, of_z, w64}
use Rattle.dp_forms.proofs.ValueLemmas.{unary_value}
use Rattle.dp_forms.proofs.arithmetic.UnaryValue.value.Goals as goal

pub returns : goal.returns
returns g c = let same : to_z w64 (of_z w64 c.in_ok-a.a) ≡ c.in_ok-a.a = search rules in unary_value _ _ same c.in_ok-a.ensures c.apply.ensures
