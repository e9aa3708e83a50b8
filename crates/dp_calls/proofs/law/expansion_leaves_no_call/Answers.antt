use Rattle.dp_calls.proofs.ExpandLaws.{keeps_text, leaves_no_call}
use Rattle.dp_calls.proofs.law.expansion_leaves_no_call.Goals as goal

pub returns : goal.returns
returns c = record { no_call = leaves_no_call c.args.p.now; same_text = keeps_text c.args.p.now }
