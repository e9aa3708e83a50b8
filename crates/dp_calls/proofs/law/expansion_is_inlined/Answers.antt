use Rattle.dp_calls.proofs.InlinedLaws.{expanded_is_inlined}
use Rattle.dp_calls.proofs.law.expansion_is_inlined.Goals as goal

pub returns : goal.returns
returns c = record { inlined = expanded_is_inlined c.args.p.now c.requires.checked c.requires.sites c.requires.regions }
