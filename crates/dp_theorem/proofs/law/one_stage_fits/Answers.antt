use Rattle.dp_theorem.proofs.OneStageFits.{one_fits, one_tabled}
use Rattle.dp_theorem.proofs.law.one_stage_fits.Goals as goal

pub returns : goal.returns
returns c = record { fits = one_fits c.args.p.now c.requires; tabled = one_tabled c.args.p.now c.requires }
