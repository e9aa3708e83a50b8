use Rattle.dp_load.proofs.accepted.AtHome.{numbers_fit_in}
use Rattle.dp_load.proofs.law.read_numbers_fit.Goals as goal

pub returns : goal.returns
returns c = record { fits = numbers_fit_in c.args.text.now }
