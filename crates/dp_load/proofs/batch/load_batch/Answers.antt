use Rattle.std.proofs.Common.{◌∙◌, ap, Ok}
use Rattle.dp_load.proofs.TextsLemmas.{given, program_gives}
use Rattle.dp_load.proofs.BatchLemmas.{batch_loaded, inputs_failed, inputs_refused, plans_failed, plans_refused, program_failed, program_refused}
use Rattle.dp_load.proofs.accepted.Given.{loaded_inlined}
use Rattle.dp_load.proofs.batch.load_batch.Goals as goal

pub returns-in-Refused-clause-loads : goal.returns-in-Refused-clause-loads
returns-in-Refused-clause-loads g c =
    program_refused _ _ c.args.list.now _ _ _ _ _ (given _ _ _ (c.in_ok-program.was ∙ ap Ok c.in-Refused.is)
    (program_gives _ _ _ _ _ _ _ c.load_program.ensures.loads c.load_program.ensures.faults c.load_program.ensures.failed_names))

pub returns-in-Failed-clause-loads : goal.returns-in-Failed-clause-loads
returns-in-Failed-clause-loads g c =
    program_failed _ _ c.args.list.now _ _ _ _ (given _ _ _ (c.in_ok-program.was ∙ ap Ok c.in-Failed.is)
    (program_gives _ _ _ _ _ _ _ c.load_program.ensures.loads c.load_program.ensures.faults c.load_program.ensures.failed_names))

pub returns-in-Refused-2-clause-loads : goal.returns-in-Refused-2-clause-loads
returns-in-Refused-2-clause-loads g c =
    inputs_refused _ _ c.args.list.now _ _ _ _ _ _ _ (given _ _ _ (c.in_ok-program.was ∙ ap Ok c.in-Text.is)
    (program_gives _ _ _ _ _ _ _ c.load_program.ensures.loads c.load_program.ensures.faults c.load_program.ensures.failed_names))
    (given _ _ _ (c.in_ok-inputs.was ∙ ap Ok c.in-Refused-2.is) (rw c.load_program.ensures.contents at c.load_inputs.ensures.loads))

pub returns-in-Failed-2-clause-loads : goal.returns-in-Failed-2-clause-loads
returns-in-Failed-2-clause-loads g c =
    inputs_failed _ _ c.args.list.now _ _ _ _ _ _ _ (given _ _ _ (c.in_ok-program.was ∙ ap Ok c.in-Text.is)
    (program_gives _ _ _ _ _ _ _ c.load_program.ensures.loads c.load_program.ensures.faults c.load_program.ensures.failed_names))
    (given _ _ _ (c.in_ok-inputs.was ∙ ap Ok c.in-Failed-2.is) (rw c.load_program.ensures.contents at c.load_inputs.ensures.loads))

pub returns-in-Refused-3-clause-loads : goal.returns-in-Refused-3-clause-loads
returns-in-Refused-3-clause-loads g c =
    plans_refused _ _ c.args.list.now _ _ _ _ _ _ _ (given _ _ _ (c.in_ok-program.was ∙ ap Ok c.in-Text.is)
    (program_gives _ _ _ _ _ _ _ c.load_program.ensures.loads c.load_program.ensures.faults c.load_program.ensures.failed_names)) _ _ _
    (given _ _ _ (c.in_ok-inputs.was ∙ ap Ok c.in-Inputs.is) (rw c.load_program.ensures.contents at c.load_inputs.ensures.loads)) _
    (given _ _ _ (c.in_ok-plans.was ∙ ap Ok c.in-Refused-3.is) (rw (c.load_inputs.ensures.contents, c.load_program.ensures.contents) at
    c.load_given.ensures.gives))

pub returns-in-Failed-3-clause-loads : goal.returns-in-Failed-3-clause-loads
returns-in-Failed-3-clause-loads g c =
    plans_failed _ _ c.args.list.now _ _ _ _ _ _ _ (given _ _ _ (c.in_ok-program.was ∙ ap Ok c.in-Text.is)
    (program_gives _ _ _ _ _ _ _ c.load_program.ensures.loads c.load_program.ensures.faults c.load_program.ensures.failed_names)) _ _ _
    (given _ _ _ (c.in_ok-inputs.was ∙ ap Ok c.in-Inputs.is) (rw c.load_program.ensures.contents at c.load_inputs.ensures.loads)) _ c.role_of.ensures
    (given _ _ _ (c.in_ok-plans.was ∙ ap Ok c.in-Failed-3.is) (rw (c.load_inputs.ensures.contents, c.load_program.ensures.contents) at
    c.load_given.ensures.gives))

pub returns-in-Text-2-clause-loads : goal.returns-in-Text-2-clause-loads
returns-in-Text-2-clause-loads g c =
    batch_loaded _ _ c.args.list.now _ _ _ _ _ _ _ (given _ _ _ (c.in_ok-program.was ∙ ap Ok c.in-Text.is)
    (program_gives _ _ _ _ _ _ _ c.load_program.ensures.loads c.load_program.ensures.faults c.load_program.ensures.failed_names)) _ _ _
    (given _ _ _ (c.in_ok-inputs.was ∙ ap Ok c.in-Inputs.is) (rw c.load_program.ensures.contents at c.load_inputs.ensures.loads)) _
    (given _ _ _ (c.in_ok-plans.was ∙ ap Ok c.in-Text-2.is) (rw (c.load_inputs.ensures.contents, c.load_program.ensures.contents) at
    c.load_given.ensures.gives)) (given _ _ _ (c.in_ok-plans.was ∙ ap Ok c.in-Text-2.is) c.load_given.ensures.fit)

pub load_given-requires-clause-inlined : goal.load_given-requires-clause-inlined
load_given-requires-clause-inlined g c =
    loaded_inlined _ _ _ (given _ _ _ (c.in_ok-program.was ∙ ap Ok c.in-Text.is) (program_gives _ _ _ _ _ _ _ c.load_program.ensures.loads
    c.load_program.ensures.faults c.load_program.ensures.failed_names)).0
