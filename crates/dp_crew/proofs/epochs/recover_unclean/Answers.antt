use Rattle.dp_crew.proofs.StreamLemmas.{streams_stopped}
use Rattle.dp_crew.proofs.epochs.recover_unclean.Goals as goal

pub returns-in_err-end-clause-streams : goal.returns-in_err-end-clause-streams
returns-in_err-end-clause-streams g c plan first u = streams_stopped _ _ _ _ _ c.from_residual.ensures.0 (c.in_err-end.ensures.streams plan first u)
