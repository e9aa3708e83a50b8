use Rattle.std.proofs.Common.{refl}
use Rattle.dp_load.specs.Roles.{NotNamed}
use Rattle.dp_load.proofs.planning.load_counts.Goals as goal

pub returns-in-Some-clause-gives : goal.returns-in-Some-clause-gives
returns-in-Some-clause-gives g c = rw c.in-Some.is c.load_named_counts.ensures.gives

pub returns-in-None-clause-gives : goal.returns-in-None-clause-gives
returns-in-None-clause-gives g c = rw c.in-None.is (NotNamed, refl, refl)
