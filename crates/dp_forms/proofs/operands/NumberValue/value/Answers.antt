use Rattle.dp_forms.proofs.ValueLemmas.{number_value}
use Rattle.dp_forms.proofs.operands.NumberValue.value.Goals as goal

pub returns : goal.returns
returns g c = number_value _
