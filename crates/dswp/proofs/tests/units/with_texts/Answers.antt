use Rattle.std.proofs.Common.{◌∙◌, ap, Ok}
use Rattle.dp_load.proofs.TextsLemmas.{given, program_gives}
use Rattle.dp_load.proofs.accepted.Given.{loaded_inlined}
use Rattle.dswp.proofs.tests.units.with_texts.Goals as goal

pub with_program-requires-clause-inlined : goal.with_program-requires-clause-inlined
with_program-requires-clause-inlined g c =
    loaded_inlined _ _ _ (given _ _ _ (c.in_ok-program.was ∙ ap Ok c.in-Text.is) (program_gives _ _ _ _ _ _ _ c.load_program.ensures.loads
    c.load_program.ensures.faults c.load_program.ensures.failed_names)).0
