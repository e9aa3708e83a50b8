use Rattle.dp_tree.proofs.RunLaws.{runs_by_step}
use Rattle.dp_tree.proofs.law.a_run_goes_by_steps.Goals as goal

pub returns : goal.returns
returns c = record { by_step = runs_by_step c.args.p.now c.args.input.now }
