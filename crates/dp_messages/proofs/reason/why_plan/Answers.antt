use Rattle.std.proofs.Common.{◌∙◌, ap, Ok}
use Rattle.dp_words.specs.Planning.{shown_planning}
use Rattle.dp_load.specs.Loading.{LoadsProgram}
use Rattle.dp_load.proofs.TextsLemmas.{given}
use Rattle.dp_load.proofs.accepted.Given.{loaded_inlined}
use Rattle.dp_refusal.specs.declared.role.Role.TheVariants as role
use Rattle.dp_messages.specs.Finding.{IsUnread}
use Rattle.dp_messages.proofs.LoadFindings.{least_finds, more_failed, program_refused, read_refused, read_text, same_refused, same_text}
use Rattle.dp_messages.proofs.reason.why_plan.Goals as goal

pub load_least-requires-clause-inlined : goal.load_least-requires-clause-inlined
load_least-requires-clause-inlined g c =
    loaded_inlined _ _ _ (read_text (LoadsProgram _ _) _ _ (c.in_ok-program.was ∙ ap Ok c.in-Text.is) c.load_program.ensures.loads)

pub returns-in-Refused-clause-finds : goal.returns-in-Refused-clause-finds
returns-in-Refused-clause-finds g c words asked of asks =
    let is = c.in_ok-program.was ∙ ap Ok c.in-Refused.is in
    program_refused _ asked _ words _ _ _ asks of.program (read_refused (LoadsProgram _ _) _ _ is c.load_program.ensures.loads)
    (same_refused _ _ _ _ is c.load_program.ensures.faults)

pub returns-in-Failed-clause-finds : goal.returns-in-Failed-clause-finds
returns-in-Failed-clause-finds g c words asked of asks =
    IsUnread role.Program (more_failed _ _ _ (c.in_ok-program.was ∙ ap Ok c.in-Failed.is) c.load_program.ensures.faults)

pub returns-clause-finds : goal.returns-clause-finds
returns-clause-finds g c words asked of asks =
    let is = c.in_ok-program.was ∙ ap Ok c.in-Text.is in
    rw c.found_in.ensures
    (least_finds _ words _ _ _ _ _ _ (same_text _ _ _ _ is c.load_program.ensures.faults) asked (shown_planning c.args.plan) of asks
    (read_text (LoadsProgram _ _) _ _ is c.load_program.ensures.loads) _
    (given _ _ _ c.in_ok-plans.was (rw c.load_program.ensures.contents at c.load_least.ensures.gives)))
