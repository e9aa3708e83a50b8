use Rattle.dp_load.proofs.accepted.AtHome.{programs_at_home}
use Rattle.dp_load.proofs.law.read_programs_are_at_home.Goals as goal

pub returns : goal.returns
returns c = record { home = programs_at_home c.args.text.now }
