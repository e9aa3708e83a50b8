use Rattle.dp_columns.specs.Held.{IsNone}
use Rattle.dp_columns.proofs.Places.{front_set, front_past}
use Rattle.dp_columns.proofs.columns.clear_place.Goals as goal

pub returns-in-Some-clause-empty : goal.returns-in-Some-clause-empty
returns-in-Some-clause-empty c = front_set IsNone c.args.place c.args.loads.now c.clear.new.self c.clear.ensures

pub returns-in_default-clause-empty : goal.returns-in_default-clause-empty
returns-in_default-clause-empty c = front_past IsNone c.args.place c.args.loads.now (λ lt. absurd (cc (c.in_default.ensures.within.1 lt)))
