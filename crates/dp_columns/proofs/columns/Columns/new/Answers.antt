use Rattle.dp_columns.proofs.ColumnLists.{kept_nothing}
use Rattle.dp_columns.proofs.columns.Columns.new.Goals as goal

pub returns : goal.returns
returns c = kept_nothing c.args.kinds.now c.in_ok-told.told c.in_ok-loads.loads c.in_ok-told.ensures c.in_ok-loads.ensures
