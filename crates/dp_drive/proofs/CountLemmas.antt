-- What is counted of a run, and that other answers count nothing.
use Rattle.std.proofs.Common.{◌≡◌, arith, inl, inr, Some, ℕ, ◌<◌, List, Option, ℤ, Result, Ok, Err, IfOk, OnOk, None, ◌≢◌, ◌+◌}
use Rattle.dp_tree.specs.declared.Program.{Program}
use Rattle.dp_edge.specs.declared.writing.WriteFail.{WriteFail}
use Rattle.dp_edge.specs.declared.writing.WriteFail.TheVariants.{Write, NoMemory}
use Rattle.dp_refusal.specs.declared.role.Role.{Role}
use Rattle.dp_refusal.specs.declared.refusal.Refusal.{Refusal}
use Rattle.dp_refusal.specs.declared.refusal.Refusal.TheVariants.{Words, Byte, Syntax, Name, InputWord, ListLine, BatchWord, PlanLine, PlanRule, ProfileLine}
use Rattle.dp_refusal.specs.declared.refusal.Refusal.TheVariants.{CheckpointLine, Limit}
use Rattle.dp_load.specs.declared.texts.Texts.TheVariants as texts
use Rattle.dp_refusal.specs.Refusal.{refusal_line, refusal_status, failed_read_line}
use Rattle.dp_words.specs.Words.{Asked, Asks, ToRun}
use Rattle.dp_words.specs.Run.{RunAsked}
use Rattle.dp_plan.specs.declared.Plan.{Plan}
use Rattle.dp_run.specs.RunText.{source_run, committed_in_all}
use Rattle.dp_drive.specs.steps.Status.{status_after}
use Rattle.dp_load.specs.Roles.{Contents}
use Rattle.dp_drive.specs.Answer.{run_fuel}
use Rattle.dp_drive.specs.Headline.{IsCounted, IsEnd}
use Rattle.dp_load.specs.Texts.{FailedNames, LoadsTexts}
use Rattle.dp_drive.specs.steps.Carried.{Finishes}
use Rattle.dp_drive.proofs.AnswerLemmas.{count_run}

-- other statuses than a run's
no_end_by : (n : ℕ) → 1 < n → n ≢ 8 → IsEnd n → ⊥
no_end_by n more other (inl h) = omega (arith, more, h)
no_end_by n more other (inr (inl h)) = omega (arith, more, h)
no_end_by n more other (inr (inr h)) = other h

refusal_is_no_end : (refusal : Refusal) → IsEnd (refusal_status refusal) → ⊥
refusal_is_no_end Words h = no_end_by 2 (omega arith) (λ e. omega (arith, e)) h
refusal_is_no_end (Byte place) h = no_end_by 3 (omega arith) (λ e. omega (arith, e)) h
refusal_is_no_end (Syntax token) h = no_end_by 3 (omega arith) (λ e. omega (arith, e)) h
refusal_is_no_end (Name offence line) h = no_end_by 3 (omega arith) (λ e. omega (arith, e)) h
refusal_is_no_end (InputWord word) h = no_end_by 4 (omega arith) (λ e. omega (arith, e)) h
refusal_is_no_end (ListLine line) h = no_end_by 4 (omega arith) (λ e. omega (arith, e)) h
refusal_is_no_end (BatchWord input word) h = no_end_by 4 (omega arith) (λ e. omega (arith, e)) h
refusal_is_no_end (PlanLine line) h = no_end_by 4 (omega arith) (λ e. omega (arith, e)) h
refusal_is_no_end (PlanRule rule site) h = no_end_by 4 (omega arith) (λ e. omega (arith, e)) h
refusal_is_no_end (ProfileLine line) h = no_end_by 4 (omega arith) (λ e. omega (arith, e)) h
refusal_is_no_end (CheckpointLine line) h = no_end_by 4 (omega arith) (λ e. omega (arith, e)) h
refusal_is_no_end (Limit quantity count) h = no_end_by 9 (omega arith) (λ e. omega (arith, e)) h

-- a result whose status is this one
status_is : (s : ℕ) (bytes : List ℕ) (told tells : Option (List ℕ)) (result : Result ℕ WriteFail) (P : ℕ → Type 0) → P s →
    Finishes s bytes told tells result → IfOk result P
status_is s bytes told tells (Ok answered) P h finishes = rw finishes.0 h
status_is s bytes told tells (Err fail) P h finishes = tt

-- where no run ended, nothing is said of the tally
module _ (words : List (List ℕ)) (contents : Contents) (before now : ℕ) (told tells : Option (List ℕ)) (result : Result ℕ WriteFail) where
  pub refused_counts : (refusal : Refusal) → Finishes (refusal_status refusal) (refusal_line refusal) told tells result →
      IfOk result (IsCounted words contents before now)
  refused_counts refusal h = status_is (refusal_status refusal) (refusal_line refusal) told tells result (IsCounted words contents before now)
      (λ asked fuel asks some end. absurd (refusal_is_no_end refusal end)) h

  pub failed_counts : (which : Role) → Finishes 5 (failed_read_line which) told tells result → IfOk result (IsCounted words contents before now)
  failed_counts which h = status_is 5 (failed_read_line which) told tells result (IsCounted words contents before now)
      (λ asked fuel asks some end. absurd (no_end_by 5 (omega arith) (λ e. omega (arith, e)) end)) h

all_results : (result : Result ℕ WriteFail) (P : ℕ → Type 0) → ((s : ℕ) → P s) → IfOk result P
all_results (Ok s) P h = h s
all_results (Err fail) P h = tt

-- nor where no run was asked for
pub no_run_counts : (words : List (List ℕ)) (contents : Contents) (before now : ℕ) (result : Result ℕ WriteFail) →
    ((asked : Asked) (fuel : ℕ) → Asks words asked → run_fuel asked ≡ Some fuel → ⊥) → IfOk result (IsCounted words contents before now)
no_run_counts words contents before now result none =
    all_results result (IsCounted words contents before now) (λ s asked fuel asks some end. absurd (none asked fuel asks some))

-- the status after a result: those of failures are no ends
pub counted_after : (words : List (List ℕ)) (contents : Contents) (before now status : ℕ) (result : Result ℕ WriteFail) → status ≡ status_after result →
    IfOk result (IsCounted words contents before now) → IsCounted words contents before now status
counted_after words contents before now status (Ok s) e h = rw e h
counted_after words contents before now status (Err Write) e h =
    λ asked fuel asks some end. absurd (no_end_by 6 (omega arith) (λ e. omega (arith, e)) (rw e at end))
counted_after words contents before now status (Err NoMemory) e h =
    λ asked fuel asks some end. absurd (no_end_by 7 (omega arith) (λ e. omega (arith, e)) (rw e at end))

-- a run that was loaded: where it ended, the tally grew by what was committed of it
pub run_counts : (words : List (List ℕ)) (contents : Contents) (faults after : ℕ) (failed fails : FailedNames) (run : RunAsked) (q : Program) (numbers : List ℤ)
    (plans : List Plan) (before now : ℕ) (result : Result ℕ WriteFail) →
    Asks words (ToRun run) → LoadsTexts contents run faults after failed fails (texts.Run q numbers plans) →
    OnOk result (now ≡ before + committed_in_all q plans (source_run q numbers run.fuel)) → IfOk result (IsCounted words contents before now)
run_counts words contents faults after failed fails run q numbers plans before now (Ok status) asks texts h =
    count_run words contents faults after failed fails None None run q numbers plans before now status asks texts h
run_counts words contents faults after failed fails run q numbers plans before now (Err fail) asks texts h = tt
