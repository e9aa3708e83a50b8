-- What each verb that runs a program finishes is what its words are to be answered with.
use Rattle.std.proofs.Common.{◌≡◌, refl, sym, ◌∙◌, ap, subst, false, ℕ, ◌+◌, List, [], ◌∷◌, ◌++◌, ℤ, Option, Some, None, Result}
use Rattle.dp_tree.specs.declared.Program.{Program}
use Rattle.dp_tree.specs.Checked.{IsChecked}
use Rattle.dp_tree.specs.Inlined.{IsInlined}
use Rattle.dp_tree.specs.Iteration.{start}
use Rattle.dp_calls.specs.Expand.{expand}
use Rattle.dp_calls.specs.Frames.{outcome}
use Rattle.dp_calls.proofs.SameMeanings.{same_meaning}
use Rattle.dp_plan.specs.declared.Plan.{Plan}
use Rattle.dp_run.specs.RunText.{source_run, trace_text}
use Rattle.dp_edge.specs.declared.writing.WriteFail.{WriteFail}
use Rattle.dp_log.specs.LogText.{log_bytes}
use Rattle.dp_batch.specs.BatchText.{batch_bytes, input_line, texts_from}
use Rattle.dp_batch.specs.BatchText as batch
use Rattle.dp_save.specs.declared.Checkpoint.{Checkpoint}
use Rattle.dp_resume.specs.Saved.{saved_bytes, saved_end}
use Rattle.dp_resume.specs.Saved as saved
use Rattle.dp_resume.specs.Resumed.{resumed_bytes, resumed_run}
use Rattle.dp_words.specs.declared.task.Place.{Place}
use Rattle.dp_refusal.specs.Refusal.{exit_status}
use Rattle.dp_drive.specs.Audit.{audit_line, audit_status, first_difference, log_of}
use Rattle.dp_drive.specs.Pieces.{resumed_text, saved_at_place, saved_status, saved_text, status_unless}
use Rattle.dp_drive.specs.Pieces as pieces
use Rattle.dp_drive.specs.RunText.{run_text}
use Rattle.dp_drive.specs.steps.Carried.{Finishes}
use Rattle.dp_drive.specs.steps.Saved.{status_at}
use Rattle.dp_drive.proofs.AnswerLemmas.{finishes_as}
use Rattle.dp_drive.proofs.accepted.SameText.{same_end, same_text}

module _ (p q : Program) (is : q ≡ expand p) (checked : IsChecked p) (inlined : IsInlined (expand p)) (told tells : Option (List ℕ))
    (result : Result ℕ WriteFail) where
  -- the run of the expanded program ends as the source's
  ends_as : (plans : List Plan) (numbers : List ℤ) (fuel : ℕ) → (source_run q numbers fuel).end ≡ (outcome p numbers fuel).end
  ends_as plans numbers fuel =
      ap (λ (x : Program). (source_run x numbers fuel).end) is ∙ sym (same_end p inlined (same_meaning p checked) plans numbers fuel false)

  text_as : (plans : List Plan) (numbers : List ℤ) (fuel : ℕ) → trace_text (expand p) plans (source_run (expand p) numbers fuel) false ≡ run_text p
      plans numbers fuel false
  text_as plans numbers fuel = sym (same_text p inlined (same_meaning p checked) plans numbers fuel false)

  pub finishes_log : (plans : List Plan) (numbers : List ℤ) (fuel : ℕ) → Finishes (exit_status (source_run q numbers fuel).end)
      (log_bytes q plans (source_run q numbers fuel)) told tells result →
      Finishes (exit_status (outcome p numbers fuel).end) (log_of p plans numbers fuel) told tells result
  finishes_log plans numbers fuel h =
      finishes_as _ _ (log_bytes q plans (source_run q numbers fuel)) (log_of p plans numbers fuel) told tells result
      (ap exit_status (ends_as plans numbers fuel)) (ap (λ (x : Program). log_bytes x plans (source_run x numbers fuel)) is) h

  pub finishes_audit : (plans : List Plan) (numbers : List ℤ) (fuel : ℕ) (text : List ℕ) →
      Finishes (audit_status (first_difference text (log_bytes q plans (source_run q numbers fuel))))
      (audit_line (first_difference text (log_bytes q plans (source_run q numbers fuel)))) told tells result →
      Finishes (audit_status (first_difference text (log_of p plans numbers fuel)))
      (audit_line (first_difference text (log_of p plans numbers fuel))) told tells result
  finishes_audit plans numbers fuel text h =
      let same : log_bytes q plans (source_run q numbers fuel) ≡ log_of p plans numbers fuel = ap
      (λ (x : Program). log_bytes x plans (source_run x numbers fuel)) is in
      subst (λ (log : List ℕ). Finishes (audit_status (first_difference text log)) (audit_line (first_difference text log)) told tells result) same h

  saved_as : (plans : List Plan) (numbers : List ℤ) (fuel : ℕ) (place : Place) (k : Option ℕ) →
      saved.saved_from (expand p) plans numbers fuel place.region place.after k ≡ saved_at_place p plans numbers fuel place k
  saved_as plans numbers fuel place None = text_as plans numbers fuel
  saved_as plans numbers fuel place (Some k) = refl

  status_as : (plans : List Plan) (numbers : List ℤ) (fuel : ℕ) (k : Option ℕ) → status_at (saved.end_from (source_run (expand p) numbers fuel) k)
      ≡ status_unless (exit_status (outcome p numbers fuel).end) k
  status_as plans numbers fuel None = ap exit_status (sym (same_end p inlined (same_meaning p checked) plans numbers fuel false))
  status_as plans numbers fuel (Some k) = refl

  pub finishes_save : (plans : List Plan) (numbers : List ℤ) (fuel : ℕ) (place : Place) →
      Finishes (status_at (saved_end q numbers fuel place.region place.after)) (saved_bytes q plans numbers fuel place.region place.after) told tells result →
      Finishes (saved_status p numbers fuel place) (saved_text p plans numbers fuel place) told tells result
  finishes_save plans numbers fuel place h =
      let k : Option ℕ = start (source_run (expand p) numbers fuel) place.region place.after in
      finishes_as _ _ (saved_bytes q plans numbers fuel place.region place.after) (saved_text p plans numbers fuel place) told tells result
      (ap (λ (x : Program). status_at (saved_end x numbers fuel place.region place.after)) is ∙ status_as plans numbers fuel k)
      (ap (λ (x : Program). saved_bytes x plans numbers fuel place.region place.after) is ∙ saved_as plans numbers fuel place k) h

  pub finishes_resume : (plans : List Plan) (numbers : List ℤ) (c : Checkpoint) → Finishes (exit_status (resumed_run q numbers c).end)
      (resumed_bytes q plans numbers c) told tells result →
      Finishes (exit_status (pieces.resumed_end p numbers c)) (resumed_text p plans numbers c) told tells result
  finishes_resume plans numbers c h =
      finishes_as _ _ (resumed_bytes q plans numbers c) (resumed_text p plans numbers c) told tells result
      (ap (λ (x : Program). exit_status (resumed_run x numbers c).end) is) (ap (λ (x : Program). resumed_bytes x plans numbers c) is) h

  batches_as : (plans : List Plan) (fuel number : ℕ) (inputs : List (List ℤ)) → texts_from (batch.batched_run_text (expand p) plans fuel) number inputs ≡ texts_from
      (λ input. run_text p plans input fuel false) number inputs
  batches_as plans fuel number [] = refl
  batches_as plans fuel number (input ∷ rest) =
      ap (λ (text : List ℕ). (input_line number ++ text) ++ texts_from (batch.batched_run_text (expand p) plans fuel) (number + 1) rest) (text_as plans input fuel)
      ∙ ap (λ (more : List ℕ). (input_line number ++ run_text p plans input fuel false) ++ more) (batches_as plans fuel (number + 1) rest)

  pub finishes_batch : (plans : List Plan) (fuel : ℕ) (inputs : List (List ℤ)) → Finishes 0 (batch_bytes q plans fuel inputs) told tells result →
      Finishes 0 (texts_from (λ input. run_text p plans input fuel false) 1 inputs) told tells result
  finishes_batch plans fuel inputs h =
      finishes_as 0 0 (batch_bytes q plans fuel inputs) (texts_from (λ input. run_text p plans input fuel false) 1 inputs) told tells result refl
      (ap (λ (x : Program). batch_bytes x plans fuel inputs) is ∙ batches_as plans fuel 1 inputs) h
