use Rattle.dp_calls.proofs.SmallNumbers.{keeps_numbers_small}
use Rattle.dp_calls.proofs.law.expansion_keeps_numbers_small.Goals as goal

pub returns : goal.returns
returns c = record { numbers = keeps_numbers_small c.args.p.now }
