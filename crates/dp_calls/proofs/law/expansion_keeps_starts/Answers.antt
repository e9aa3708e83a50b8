use Rattle.dp_calls.proofs.StartLaws.{expanded_starts}
use Rattle.dp_calls.proofs.law.expansion_keeps_starts.Goals as goal

pub returns : goal.returns
returns c = record { starts = expanded_starts c.args.p.now c.requires.checked c.requires.starts }
