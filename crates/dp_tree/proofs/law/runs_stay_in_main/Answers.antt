use Rattle.dp_tree.proofs.InMain.{begins_in_main, stays_in_main}
use Rattle.dp_tree.proofs.law.runs_stay_in_main.Goals as goal

pub returns : goal.returns
returns c = record { begins = begins_in_main c.args.p.now; stays = stays_in_main c.args.p.now c.args.input.now c.requires }
