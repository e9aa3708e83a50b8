-- What a stage's columns of a batch hold.
use Rattle.std.specs.Prelude.{List}
use Rattle.dp_columns.specs.declared.ColumnKind.{ColumnKind}
use Rattle.dp_lean_epoch.specs.Holding as holding
use Rattle.dp_lean_machine.specs.declared.batch.StageColumns.{StageColumns}

abbrev pub kinds_in : StageColumns → List ColumnKind
kinds_in c = c.columns.kinds

abbrev pub held_in : StageColumns → holding.StageColumns
held_in c = record { columns = c.columns; steps = c.steps }
