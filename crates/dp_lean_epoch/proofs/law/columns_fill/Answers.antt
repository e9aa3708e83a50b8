use Rattle.dp_lean_epoch.proofs.Filling.{columns_fill}
use Rattle.dp_lean_epoch.proofs.law.columns_fill.Goals as goal

pub returns : goal.returns
returns c = columns_fill
