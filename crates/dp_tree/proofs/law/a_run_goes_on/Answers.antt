use Rattle.dp_tree.proofs.GoesOn.{goes_on, goes_on_from}
use Rattle.dp_tree.proofs.law.a_run_goes_on.Goals as goal

pub returns : goal.returns
returns c = record { so = goes_on c.args.p.now c.args.input.now; from_an_iteration = goes_on_from c.args.p.now c.args.input.now }
