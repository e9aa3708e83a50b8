-- From the parts of the program to the headline.
use Rattle.std.proofs.Common.{◌≡◌, refl, sym, ◌∙◌, ap, subst, Bool, Some, ℕ, List, Option, ℤ, Result, Ok, Err, IfOk, ◌+◌, ◌∷◌, [], ◌++◌, option_map}
use Rattle.dp_tree.specs.declared.Program.{Program}
use Rattle.dp_tree.specs.Checked.{IsChecked}
use Rattle.dp_tree.specs.Inlined.{IsInlined}
use Rattle.dp_calls.specs.Frames.{outcome}
use Rattle.dp_calls.specs.Expand.{expand}
use Rattle.dp_calls.proofs.SameMeanings.{same_meaning}
use Rattle.dp_load.proofs.accepted.Accepted.{read_checked, inlined_read}
use Rattle.dp_drive.proofs.accepted.SameText.{same_end, same_text}
use Rattle.dp_edge.specs.declared.writing.WriteFail.{WriteFail}
use Rattle.dp_refusal.specs.declared.refusal.Refusal.{Refusal}
use Rattle.dp_refusal.specs.declared.refusal.Refusal.TheVariants.{Words}
use Rattle.dp_room.specs.declared.NoMemory.{NoMemory as Wanting}
use Rattle.dp_load.specs.declared.texts.Texts.{Texts}
use Rattle.dp_load.specs.declared.texts.Texts.TheVariants as texts
use Rattle.dp_refusal.specs.Refusal.{refusal_line, refusal_status, failed_read_line}
use Rattle.dp_refusal.specs.declared.role.Role.TheVariants as role
use Rattle.dp_load.specs.declared.load.Loaded.{Loaded}
use Rattle.dp_load.specs.declared.load.Loaded.TheVariants.{Refused, Failed}
use Rattle.dp_load.specs.Loading.{GivesLoaded, LoadsProgram, ReadsProgram}
use Rattle.dp_load.specs.Order.{ReadsAll}
use Rattle.dp_load.specs.Last.{Nothing}
use Rattle.dp_load.proofs.OrderLemmas.{all_read, ends_at_program}
use Rattle.dp_load.proofs.TextsLemmas.{refusal_read}
use Rattle.dp_words.specs.Words.{Asked, Asks, AsksNothing, ToRun}
use Rattle.dp_words.specs.Run.{RunAsked}
use Rattle.dp_plan.specs.declared.Plan.{Plan}
use Rattle.dp_run.specs.Given.{AreGiven}
use Rattle.dp_run.specs.RunText.{source_run, trace_text, committed_in_all}
use Rattle.dp_drive.specs.RunText.{run_text}
use Rattle.dp_refusal.specs.Refusal.{exit_status}
use Rattle.dp_load.specs.Roles.{Contents, Input, NamedProgram, Plans, ProgramOf, SomePlans, program_in}
use Rattle.dp_drive.specs.Answer.{NotTaken, Done, OfProgram, OfRun}
use Rattle.dp_drive.specs.Answer as answers
use Rattle.dp_drive.specs.Headline.{IsCounted}
use Rattle.dp_load.specs.Texts.{FailedNames, LoadsTexts}
use Rattle.dp_drive.specs.steps.Carried.{Finishes, Carried}
use Rattle.dp_drive.specs.steps.Carried as carried
use Rattle.dp_load.specs.Texts as loads

-- a program under a name
pub named_program : {contents : Contents} {name : List ℕ} {read : Result Program Refusal} → ReadsProgram contents name read →
    ProgramOf contents (Some name) read
named_program {name = name} {read = read} h = NamedProgram name h.text read h.held h.reads

-- the texts of a run
run_texts : (contents : Contents) (run : RunAsked) (p q : Program) (numbers : List ℤ) (plans : List Plan) → ReadsProgram contents run.program (Ok p) →
    Input contents run.input (Ok numbers) → q ≡ expand p →
    Plans contents q run.options run.source (Ok plans) → ReadsAll contents (ToRun run) (Ok ((((p, numbers), []), plans), Nothing))
run_texts contents run p q numbers plans h k is l =
    all_read contents (ToRun run) p (named_program h) numbers k refl plans
    (SomePlans run.source run.options (Ok plans) (subst (λ (y : Program). Plans contents y run.options run.source (Ok plans)) is l)) refl

-- what the texts give, where they were loaded
pub loaded : (contents : Contents) (run : RunAsked) (faults after : ℕ) (failed fails : FailedNames) (r : Result Texts Wanting) (x : Texts) → r ≡ Ok x →
    IfOk r (LoadsTexts contents run faults after failed fails) →
    LoadsTexts contents run faults after failed fails x
loaded contents run faults after failed fails r x e h = rw e at h

-- they are what a run asks for
pub given : (contents : Contents) (run : RunAsked) (faults after : ℕ) (failed fails : FailedNames) (q : Program) (numbers : List ℤ) (plans : List Plan) →
    LoadsTexts contents run faults after failed fails (texts.Run q numbers plans) → AreGiven q plans
given contents run faults after failed fails q numbers plans (loads.Loaded p x others more is h k l fit e f) = record {
  inlined = subst IsInlined (sym is) (inlined_read h.text p h.reads);
  plans_are = fit;
}

-- the same status and the same bytes
pub finishes_as : (s t : ℕ) (a b : List ℕ) (told tells : Option (List ℕ)) (result : Result ℕ WriteFail) → s ≡ t → a ≡ b → Finishes s a told tells result →
    Finishes t b told tells result
finishes_as s t a b told tells result e f h = subst (λ (x : List ℕ). Finishes t x told tells result) f (subst (λ (n : ℕ). Finishes n a told tells result) e h)

-- What the run of the expanded program finishes, behind a line, is what the source's run is to be answered with.
pub finishes_source : (p q : Program) → q ≡ expand p → IsChecked p → IsInlined (expand p) → (plans : List Plan) (numbers : List ℤ) (fuel : ℕ) (why : Bool)
    (line : List ℕ) (told tells : Option (List ℕ)) (result : Result ℕ WriteFail) →
    Finishes (exit_status (source_run q numbers fuel).end) (line ++ trace_text q plans (source_run q numbers fuel) why) told tells result →
    Finishes (exit_status (outcome p numbers fuel).end) (line ++ run_text p plans numbers fuel why) told tells result
finishes_source p q is checked inlined plans numbers fuel why line told tells result h =
    let same = same_meaning p checked in
    finishes_as (exit_status (source_run q numbers fuel).end) (exit_status (outcome p numbers fuel).end)
    (line ++ trace_text q plans (source_run q numbers fuel) why) (line ++ run_text p plans numbers fuel why) told tells result
    (ap (λ (x : Program). exit_status (source_run x numbers fuel).end) is ∙ ap exit_status (sym (same_end p inlined same plans numbers fuel why)))
    (ap (λ (x : Program). line ++ trace_text x plans (source_run x numbers fuel) why) is
    ∙ ap (λ (text : List ℕ). line ++ text) (sym (same_text p inlined same plans numbers fuel why))) h

module _ (words : List (List ℕ)) (contents : Contents) (faults after : ℕ) (failed fails : FailedNames) (told tells : Option (List ℕ)) where
  pub carry_not_taken : (result : Result ℕ WriteFail) → AsksNothing words → after ≡ faults → fails ≡ failed →
      Finishes (refusal_status Words) (refusal_line Words) told tells result →
      Carried words contents faults after failed fails told tells result
  carry_not_taken result none e f finishes = carried.OfAnswer _ _ (NotTaken none) e f finishes

  pub carry_run : (run : RunAsked) (q : Program) (numbers : List ℤ) (plans : List Plan) (result : Result ℕ WriteFail) → Asks words (ToRun run) →
      LoadsTexts contents run faults after failed fails (texts.Run q numbers plans) →
      Finishes (exit_status (source_run q numbers run.fuel).end) (trace_text q plans (source_run q numbers run.fuel) run.why) told tells result →
      Carried words contents faults after failed fails told tells result
  carry_run run q numbers plans result asks (loads.Loaded p x others given is h k l fit e f) finishes =
      carried.OfAnswer _ _ (Done (ToRun run) ((((p, numbers), []), plans), Nothing) _ asks (run_texts contents run p q numbers plans h k is l) refl) e f
      (finishes_source p q is (read_checked h.text p h.reads) (inlined_read h.text p h.reads) plans numbers run.fuel run.why [] told tells result finishes)

  -- .. and the tally grew by what was committed of it
  pub count_run : (run : RunAsked) (q : Program) (numbers : List ℤ) (plans : List Plan) (before now status : ℕ) → Asks words (ToRun run) →
      LoadsTexts contents run faults after failed fails (texts.Run q numbers plans) →
      now ≡ before + committed_in_all q plans (source_run q numbers run.fuel) → IsCounted words contents before now status
  count_run run q numbers plans before now status asks (loads.Loaded p x others given is h k l fit e f) tally = λ other spent asked some end. (
    committed_in_all (expand p) plans (source_run (expand p) numbers run.fuel),
    OfRun (ToRun run) ((((p, numbers), []), plans), Nothing) run.fuel asks (run_texts contents run p q numbers plans h k is l) refl,
    tally ∙ ap (λ (y : Program). before + committed_in_all y plans (source_run y numbers run.fuel)) is,
  )

  abbrev ProgramGives : List ℕ → Loaded Program → Type 0
  ProgramGives name = GivesLoaded (LoadsProgram contents name) (Some name) faults after failed fails

  -- a program alone that is refused, or that can't be read
  pub carry_program_refused : (asked : Asked) (name : List ℕ) (refusal : Refusal) (result : Result ℕ WriteFail) → Asks words asked →
      program_in asked ≡ Some name →
      ProgramGives name (Refused refusal) → Finishes (refusal_status refusal) (refusal_line refusal) told tells result →
      Carried words contents faults after failed fails told tells result
  carry_program_refused asked name refusal result asks is g finishes =
      let read = named_program (refusal_read (ReadsProgram contents name) refusal g.0) in
      carried.OfAnswer _ _
      (answers.Refused asked refusal asks (ends_at_program contents asked refusal (subst (λ (o : Option (List ℕ)). ProgramOf contents o (Err refusal))
      (sym is) read))) g.1 g.2 finishes

  pub carry_program_failed : (asked : Asked) (name : List ℕ) (result : Result ℕ WriteFail) → Asks words asked → program_in asked ≡ Some name →
      ProgramGives name Failed → Finishes 5 (failed_read_line role.Program) told tells result →
      Carried words contents faults after failed fails told tells result
  carry_program_failed asked name result asks is g finishes =
      let same : name ≡ g.0 = cc g.1 in
      carried.OfFailedRead _ _ (OfProgram asked name asks is) g.2 (g.3 ∙ ap (λ (n : List ℕ). option_map (λ (names : List (List ℕ)). names ++ n ∷ []) failed)
      (sym same)) finishes

  -- .. on the way behind a text that was read
  pub carry_on : (begin : ℕ) (began : FailedNames) (result : Result ℕ WriteFail) → faults ≡ begin → failed ≡ began →
      Carried words contents faults after failed fails told tells result → Carried words contents begin after began fails told tells result
  carry_on begin began result e f h = subst (λ (n : ℕ). Carried words contents n after began fails told tells result) e
      (subst (λ (names : FailedNames). Carried words contents faults after names fails told tells result) f h)
