use Rattle.std.proofs.Common.{refl}
use Rattle.dp_drive.proofs.Stopping.{stopped_before}
use Rattle.dp_drive.proofs.saving.save_at.Goals as goal

pub returns-in_err-others-clause-finishes : goal.returns-in_err-others-clause-finishes
returns-in_err-others-clause-finishes g c = stopped_before _ _ _ _ _ c.from_residual.ensures.0 refl

pub returns-in_err-prepared-clause-finishes : goal.returns-in_err-prepared-clause-finishes
returns-in_err-prepared-clause-finishes g c = stopped_before _ _ _ _ _ c.from_residual-in_err-prepared.ensures.0 refl
