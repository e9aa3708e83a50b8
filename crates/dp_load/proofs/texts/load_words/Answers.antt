use Rattle.std.proofs.Common.{refl}
use Rattle.dp_load.specs.Roles.{Unnamed}
use Rattle.dp_load.proofs.TextsLemmas.{input_gives}
use Rattle.dp_load.proofs.texts.load_words.Goals as goal

pub returns-in-Some-clause-gives : goal.returns-in-Some-clause-gives
returns-in-Some-clause-gives g c =
    rw c.in-Some.is (input_gives _ _ _ _ _ _ _ c.load_input.ensures.loads c.load_input.ensures.faults c.load_input.ensures.failed_names)

pub returns-in-None-clause-gives : goal.returns-in-None-clause-gives
returns-in-None-clause-gives g c = rw (c.in-None.is, c.new.ensures) (Unnamed, refl, refl)
