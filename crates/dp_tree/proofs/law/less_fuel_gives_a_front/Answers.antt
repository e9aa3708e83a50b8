use Rattle.dp_tree.proofs.RunLaws.{fuel_extends}
use Rattle.dp_tree.proofs.law.less_fuel_gives_a_front.Goals as goal

pub returns : goal.returns
returns c = record { front = fuel_extends c.args.p.now c.args.input.now }
