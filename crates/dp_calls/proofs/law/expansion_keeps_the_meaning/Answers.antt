use Rattle.dp_calls.proofs.SameMeanings.{same_meaning}
use Rattle.dp_calls.proofs.law.expansion_keeps_the_meaning.Goals as goal

pub returns : goal.returns
returns c = record { same = same_meaning c.args.p.now c.requires }
