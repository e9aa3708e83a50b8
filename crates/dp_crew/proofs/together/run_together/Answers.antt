use Rattle.std.proofs.Common.{refl}
use Rattle.dp_edge.proofs.FrontLemmas.{front_nothing}
use Rattle.dp_crew.proofs.StreamLemmas.{streams_stopped}
use Rattle.dp_crew.proofs.together.run_together.Goals as goal

pub returns-in_err-made-clause-streams : goal.returns-in_err-made-clause-streams
returns-in_err-made-clause-streams g c first b = streams_stopped _ _ _ _ _ c.from_residual.ensures.0 (front_nothing _ _ _ refl)
