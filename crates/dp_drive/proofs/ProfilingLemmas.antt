-- What a profile's texts give is what its words are answered with.
use Rattle.std.proofs.Common.{◌≡◌, refl, sym, ◌∙◌, ap, false, ℕ, List, [], ℤ, Option, Some, Result, Ok}
use Rattle.dp_tree.specs.declared.Program.{Program}
use Rattle.dp_calls.specs.Expand.{expand}
use Rattle.dp_calls.specs.Frames.{outcome}
use Rattle.dp_calls.proofs.SameMeanings.{same_meaning}
use Rattle.dp_profile.specs.Observed.{observed}
use Rattle.dp_edge.specs.declared.writing.WriteFail.{WriteFail}
use Rattle.dp_profile_text.specs.WrittenText.{profile_text}
use Rattle.dp_run.specs.RunText.{source_run}
use Rattle.dp_words.specs.Words.{Asks, ToProfile}
use Rattle.dp_words.specs.Profiling.{Profiling}
use Rattle.dp_load.specs.declared.load.Loaded.{Loaded}
use Rattle.dp_load.specs.declared.load.Loaded.TheVariants.{Text, Refused, Failed}
use Rattle.dp_refusal.specs.declared.refusal.Refusal.{Refusal}
use Rattle.dp_refusal.specs.declared.role.Role.TheVariants as role
use Rattle.dp_refusal.specs.Refusal.{refusal_line, refusal_status, failed_read_line}
use Rattle.dp_load.specs.Loading.{GivesLoaded, LoadsProgram, ReadsProgram}
use Rattle.dp_refusal.specs.Refusal.{exit_status}
use Rattle.dp_load.specs.Roles.{Contents, Input, NamedProgram, NoPlans, ProgramOf}
use Rattle.dp_drive.specs.Answer.{Done, OfInput}
use Rattle.dp_drive.specs.Answer as answers
use Rattle.dp_load.specs.Texts.{FailedNames}
use Rattle.dp_drive.specs.steps.Carried.{Finishes, Carried}
use Rattle.dp_drive.specs.steps.Carried as carried
use Rattle.dp_load.specs.Last.{Nothing}
use Rattle.dp_load.proofs.OrderLemmas.{all_read, ends_at_input}
use Rattle.dp_load.proofs.TextsLemmas.{Source, source_of}
use Rattle.dp_drive.proofs.AnswerLemmas.{finishes_as}
use Rattle.dp_load.proofs.accepted.Accepted.{read_checked, inlined_read}
use Rattle.dp_drive.proofs.accepted.SameText.{same_end}

module _ (words : List (List ℕ)) (contents : Contents) (faults after : ℕ) (failed fails : FailedNames) (told tells : Option (List ℕ))
    (result : Result ℕ WriteFail) where
  module _ (profiling : Profiling) (asks : Asks words (ToProfile profiling)) (q : Program) (read : LoadsProgram contents profiling.program (Ok q)) where
    s : Source (ReadsProgram contents profiling.program) q
    s = source_of (ReadsProgram contents profiling.program) q read

    program : ProgramOf contents (Some profiling.program) (Ok s.source)
    program = NamedProgram profiling.program s.reads.text (Ok s.source) s.reads.held s.reads.reads

    abbrev InputGives : Loaded (List ℤ) → Type 0
    InputGives = GivesLoaded (Input contents profiling.input) profiling.input faults after failed fails

    -- the run of the expanded program ends as the source's
    end_is : (numbers : List ℤ) → (observed q numbers profiling.fuel).end ≡ (outcome s.source numbers profiling.fuel).end
    end_is numbers =
        let checked = read_checked s.reads.text s.source s.reads.reads in
        ap (λ (x : Program). (source_run x numbers profiling.fuel).end) s.is
        ∙ sym (same_end s.source (inlined_read s.reads.text s.source s.reads.reads) (same_meaning s.source checked) [] numbers profiling.fuel false)

    pub carry_profile : (numbers : List ℤ) → InputGives (Text numbers) → Finishes (exit_status (observed q numbers profiling.fuel).end)
        (profile_text q (observed q numbers profiling.fuel).profile) told tells result →
        Carried words contents faults after failed fails told tells result
    carry_profile numbers g finishes =
        carried.OfAnswer _ _ (Done (ToProfile profiling) ((((s.source, numbers), []), []), Nothing) _ asks
        (all_read contents (ToProfile profiling) s.source program numbers g.0 refl [] NoPlans refl) refl) g.1 g.2
        (finishes_as _ _ (profile_text q (observed q numbers profiling.fuel).profile)
        (profile_text (expand s.source) (observed (expand s.source) numbers profiling.fuel).profile) told tells result
        (ap exit_status (end_is numbers)) (ap (λ (x : Program). profile_text x (observed x numbers profiling.fuel).profile) s.is) finishes)

    pub carry_input_refused : (refusal : Refusal) → InputGives (Refused refusal) → Finishes (refusal_status refusal) (refusal_line refusal) told tells result →
        Carried words contents faults after failed fails told tells result
    carry_input_refused refusal g finishes =
        carried.OfAnswer _ _ (answers.Refused (ToProfile profiling) refusal asks (ends_at_input contents (ToProfile profiling) s.source program refusal
        g.0)) g.1 g.2 finishes

    pub carry_input_failed : InputGives Failed → Finishes 5 (failed_read_line role.Input) told tells result →
        Carried words contents faults after failed fails told tells result
    carry_input_failed g finishes = carried.OfFailedRead _ _ (OfInput (ToProfile profiling) s.source g.0 asks program g.1) g.2 g.3 finishes
