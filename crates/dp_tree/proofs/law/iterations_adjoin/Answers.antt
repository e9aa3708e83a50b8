use Rattle.dp_tree.proofs.IterationLaws.{iterations_adjoin}
use Rattle.dp_tree.proofs.law.iterations_adjoin.Goals as goal

pub returns : goal.returns
returns c = record { adjoin = iterations_adjoin c.args.p.now c.args.input.now }
