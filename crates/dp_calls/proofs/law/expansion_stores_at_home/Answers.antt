use Rattle.dp_calls.proofs.HomeLaws.{expanded_at_home}
use Rattle.dp_calls.proofs.law.expansion_stores_at_home.Goals as goal

pub returns : goal.returns
returns c = record { home = expanded_at_home c.args.p.now c.requires.checked }
