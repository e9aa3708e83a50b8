use Rattle.std.proofs.Common.{◌∙◌, ap, refl, Ok}
use Rattle.dp_words.specs.Profiling.{shown_profiling}
use Rattle.dp_words.specs.Words.{ToProfile}
use Rattle.dp_load.specs.Loading.{LoadsProgram}
use Rattle.dp_load.proofs.TextsLemmas.{given}
use Rattle.dp_refusal.specs.declared.role.Role.TheVariants as role
use Rattle.dp_messages.specs.Finding.{IsUnread}
use Rattle.dp_messages.proofs.LoadFindings.{input_finds, more_failed, program_refused, read_refused, read_text, same_refused, same_text}
use Rattle.dp_messages.proofs.reason.why_profile.Goals as goal

pub returns-in-Refused-clause-finds : goal.returns-in-Refused-clause-finds
returns-in-Refused-clause-finds g c words asks =
    let is = c.in_ok-refusal.was ∙ ap Ok c.in-Refused.is in
    program_refused _ (ToProfile (shown_profiling c.args.profile)) _ words _ _ _ asks refl (read_refused (LoadsProgram _ _) _ _ is c.load_program.ensures.loads)
    (same_refused _ _ _ _ is c.load_program.ensures.faults)

pub returns-in-Failed-clause-finds : goal.returns-in-Failed-clause-finds
returns-in-Failed-clause-finds g c words asks =
    IsUnread role.Program (more_failed _ _ _ (c.in_ok-refusal.was ∙ ap Ok c.in-Failed.is) c.load_program.ensures.faults)

pub returns-clause-finds : goal.returns-clause-finds
returns-clause-finds g c words asks =
    let is = c.in_ok-refusal.was ∙ ap Ok c.in-Text.is in
    rw c.found_in.ensures
    (input_finds _ words _ _ _ _ _ _ (same_text _ _ _ _ is c.load_program.ensures.faults) (shown_profiling c.args.profile) asks
    (read_text (LoadsProgram _ _) _ _ is c.load_program.ensures.loads) _
    (given _ _ _ c.in_ok-input.was (rw c.load_program.ensures.contents at c.load_words.ensures.gives)))
