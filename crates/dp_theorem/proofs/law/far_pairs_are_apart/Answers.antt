use Rattle.dp_theorem.proofs.Fitting.{accepted}
use Rattle.dp_theorem.proofs.Pairs.{far_never_carried, far_never_within}
use Rattle.dp_theorem.proofs.law.far_pairs_are_apart.Goals as goal

pub returns : goal.returns
returns c = let a = accepted c.args.p.now c.args.plan.now c.requires in record { carried = far_never_carried a; within = far_never_within a }
