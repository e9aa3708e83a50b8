-- What the texts of a batch give is what its words are answered with.
use Rattle.std.proofs.Common.{◌≡◌, refl, sym, subst, ℕ, List, [], All, ℤ, Option, Result, Ok, Err, IfOk}
use Rattle.dp_tree.specs.declared.Program.{Program}
use Rattle.dp_tree.specs.Inlined.{IsInlined}
use Rattle.dp_plan.specs.declared.Plan.{Plan}
use Rattle.dp_run.specs.Given.{AreGiven}
use Rattle.dp_edge.specs.declared.writing.WriteFail.{WriteFail}
use Rattle.dp_batch.specs.BatchText.{batch_bytes}
use Rattle.dp_room.specs.declared.NoMemory.{NoMemory as Wanting}
use Rattle.dp_words.specs.Run.{RunAsked}
use Rattle.dp_words.specs.Words.{Asked, Asks, ToBatch}
use Rattle.dp_refusal.specs.declared.role.Role.{Role}
use Rattle.dp_refusal.specs.declared.refusal.Refusal.{Refusal}
use Rattle.dp_refusal.specs.Refusal.{refusal_line, refusal_status, failed_read_line}
use Rattle.dp_load.specs.declared.batch.BatchTexts.{BatchTexts}
use Rattle.dp_load.specs.declared.batch.BatchTexts.TheVariants as texts
use Rattle.dp_load.specs.Batches.{LoadsBatch}
use Rattle.dp_load.specs.Batches as loads
use Rattle.dp_load.specs.Last.{Nothing}
use Rattle.dp_load.specs.Roles.{Contents, Plans, SomePlans, Unnamed}
use Rattle.dp_load.specs.Texts.{FailedNames}
use Rattle.dp_load.proofs.OrderLemmas.{all_listed, ends_at_list, ends_at_program, listed_ends_at_plans, with_input, with_listed}
use Rattle.dp_load.proofs.accepted.Accepted.{inlined_read, read_checked}
use Rattle.dp_load.proofs.accepted.FewWords.{HasFewWords, inputs_few}
use Rattle.dp_drive.specs.Answer.{OfList, OfListed, OfPlans, OfProgram}
use Rattle.dp_drive.specs.Answer as answers
use Rattle.dp_drive.specs.steps.Carried.{Carried, Finishes}
use Rattle.dp_drive.specs.steps.Carried as carried
use Rattle.dp_drive.proofs.AnswerLemmas.{named_program}
use Rattle.dp_drive.proofs.VerbLemmas.{finishes_batch}

-- what the texts give, where they were loaded
pub loaded : (contents : Contents) (run : RunAsked) (list : List ℕ) (faults after : ℕ) (failed fails : FailedNames) (r : Result BatchTexts Wanting)
    (x : BatchTexts) → r ≡ Ok x →
    IfOk r (LoadsBatch contents run list faults after failed fails) → LoadsBatch contents run list faults after failed fails x
loaded contents run list faults after failed fails r x e h = rw e at h

-- they are what a batch asks for
pub given : (contents : Contents) (run : RunAsked) (list : List ℕ) (faults after : ℕ) (failed fails : FailedNames) (q : Program) (inputs : List (List ℤ))
    (plans : List Plan) → LoadsBatch contents run list faults after failed fails (texts.Run q inputs plans) → AreGiven q plans
given contents run list faults after failed fails q inputs plans (loads.BatchLoaded p x others more is h k l fit e f) =
    record { inlined = subst IsInlined (sym is) (inlined_read h.text p h.reads); plans_are = fit }

pub few : (contents : Contents) (run : RunAsked) (list : List ℕ) (faults after : ℕ) (failed fails : FailedNames) (q : Program) (inputs : List (List ℤ))
    (plans : List Plan) → LoadsBatch contents run list faults after failed fails (texts.Run q inputs plans) → All HasFewWords inputs
few contents run list faults after failed fails q inputs plans (loads.BatchLoaded p x others more is h k l fit e f) = inputs_few inputs k

module _ (words : List (List ℕ)) (contents : Contents) (faults after : ℕ) (failed fails : FailedNames) (told tells : Option (List ℕ)) (run : RunAsked)
    (list : List ℕ) (asks : Asks words (ToBatch run list)) (result : Result ℕ WriteFail) where
  abbrev asked : Asked
  asked = ToBatch run list

  abbrev Carries : Type 0
  Carries = Carried words contents faults after failed fails told tells result

  pub carry_batch : (q : Program) (inputs : List (List ℤ)) (plans : List Plan) → LoadsBatch contents run list faults after failed fails
      (texts.Run q inputs plans) → Finishes 0 (batch_bytes q plans run.fuel inputs) told tells result → Carries
  carry_batch q inputs plans (loads.BatchLoaded p x others more is h k l fit e f) finishes =
      carried.OfAnswer _ _
      (answers.Done asked ((((p, []), inputs), plans), Nothing) _ asks
      (all_listed contents asked p (named_program h) [] Unnamed inputs k plans
      (SomePlans run.source run.options (Ok plans) (subst (λ (y : Program). Plans contents y run.options run.source (Ok plans)) is l)) refl) refl) e f
      (finishes_batch p q is (read_checked h.text p h.reads) (inlined_read h.text p h.reads) told tells result plans run.fuel inputs finishes)

  pub carry_refused : (refusal : Refusal) → LoadsBatch contents run list faults after failed fails (texts.Refused refusal) →
      Finishes (refusal_status refusal) (refusal_line refusal) told tells result → Carries
  carry_refused refusal (loads.ProgramRefused other h e f) finishes =
      carried.OfAnswer _ _ (answers.Refused asked refusal asks (ends_at_program contents asked refusal (named_program h))) e f finishes
  carry_refused refusal (loads.InputsRefused other p h k e f) finishes =
      carried.OfAnswer _ _ (answers.Refused asked refusal asks (ends_at_list contents asked p (named_program h) [] Unnamed refusal k)) e f finishes
  carry_refused refusal (loads.PlansRefused other p inputs h k l e f) finishes =
      carried.OfAnswer _ _ (answers.Refused asked refusal asks (listed_ends_at_plans contents asked p (named_program h) [] Unnamed inputs k refusal
      (SomePlans run.source run.options (Err refusal) l))) e f finishes

  pub carry_failed : (which : Role) → LoadsBatch contents run list faults after failed fails (texts.Failed which) →
      Finishes 5 (failed_read_line which) told tells result → Carries
  carry_failed which (loads.ProgramFailed less e) finishes = carried.OfFailedRead _ _ (OfProgram asked run.program asks refl) less e finishes
  carry_failed which (loads.ListNotRead p h less e) finishes =
      carried.OfFailedRead _ _ (OfList asked (p, []) list asks (with_input contents asked p (named_program h) [] Unnamed) refl) less e finishes
  carry_failed which (loads.InputNotRead p name h next less e) finishes =
      carried.OfFailedRead _ _ (OfListed asked (p, []) list name asks (with_input contents asked p (named_program h) [] Unnamed) refl next) less e finishes
  carry_failed which (loads.PlansFailed p inputs name h k named less e) finishes =
      carried.OfFailedRead _ _ (OfPlans asked ((p, []), inputs) run.source run.options name asks (with_listed contents asked p (named_program h) [] Unnamed
      inputs k) refl named) less e finishes
