use Rattle.dp_columns.specs.Held.{IsEmpty}
use Rattle.dp_columns.proofs.ColumnLists.{kind_of}
use Rattle.dp_columns.proofs.Places.{same_map, front_set, front_past}
use Rattle.dp_columns.proofs.columns.clear_column.Goals as goal

pub returns-in-Some-clause-kinds : goal.returns-in-Some-clause-kinds
returns-in-Some-clause-kinds c =
    same_map kind_of c.args.told.now c.args.place c.in-Some.column.now c.clear.new.self c.in-Some.ensures.value c.clear.ensures.kind

pub returns-in-Some-clause-empty : goal.returns-in-Some-clause-empty
returns-in-Some-clause-empty c = front_set IsEmpty c.args.place c.args.told.now c.clear.new.self c.clear.ensures.empty

pub returns-in_default-clause-empty : goal.returns-in_default-clause-empty
returns-in_default-clause-empty c = front_past IsEmpty c.args.place c.args.told.now (λ lt. absurd (cc (c.in_default.ensures.within.1 lt)))
