-- What each verb that runs a program carries out, where its texts were read.
use Rattle.std.proofs.Common.{◌≡◌, refl, subst, ℕ, List, [], ℤ, Option, Some, Result, Ok, Err, IfOk}
use Rattle.dp_tree.specs.declared.Program.{Program}
use Rattle.dp_calls.specs.Expand.{expand}
use Rattle.dp_plan.specs.declared.Plan.{Plan}
use Rattle.dp_run.specs.RunText.{source_run}
use Rattle.dp_edge.specs.declared.writing.WriteFail.{WriteFail}
use Rattle.dp_log.specs.LogText.{log_bytes}
use Rattle.dp_save.specs.declared.Checkpoint.{Checkpoint as Point}
use Rattle.dp_save.specs.Fits.{Fits}
use Rattle.dp_resume.specs.Saved.{saved_bytes, saved_end}
use Rattle.dp_resume.specs.Resumed.{resumed_bytes, resumed_run}
use Rattle.dp_words.specs.declared.task.Place.{Place}
use Rattle.dp_words.specs.Run.{RunAsked}
use Rattle.dp_words.specs.Words.{Asked, Asks, ToAudit, ToLog, ToResume, ToRun, ToSave}
use Rattle.dp_refusal.specs.declared.role.Role.TheVariants as role
use Rattle.dp_refusal.specs.declared.refusal.Refusal.{Refusal}
use Rattle.dp_refusal.specs.Refusal.{refusal_line, refusal_status, failed_read_line, exit_status}
use Rattle.dp_load.specs.declared.load.Loaded.{Loaded}
use Rattle.dp_load.specs.declared.load.Loaded.TheVariants.{Text, Refused, Failed}
use Rattle.dp_load.specs.declared.texts.Texts.TheVariants as texts
use Rattle.dp_load.specs.Last.{Checkpoint, CheckpointTaken, CheckpointTooLong, LastCheckpoint, LastLog, LastOf, Log, Logged, NoCheckpoint, Nothing}
use Rattle.dp_load.specs.Last.{ReadsCheckpoint, SavedAt, logged, saved_at}
use Rattle.dp_load.specs.Loading.{FaultsAfterLoad, GivesLoaded, LoadsCheckpoint, LoadsLog, names_after}
use Rattle.dp_load.specs.Loading.{Loads as Loads_}
use Rattle.dp_load.proofs.TextsLemmas.{gives}
use Rattle.dp_room.specs.declared.NoMemory.{NoMemory as Wanting}
use Rattle.std.specs.Option.{option_map}
use Rattle.dp_load.specs.Roles.{Contents}
use Rattle.dp_load.specs.Texts.{LoadsTexts, FailedNames}
use Rattle.dp_load.proofs.accepted.Accepted.{inlined_read, read_checked}
use Rattle.dp_drive.specs.Answer.{OfLast}
use Rattle.dp_drive.specs.Answer as answers
use Rattle.dp_drive.specs.Audit.{audit_line, audit_status, first_difference}
use Rattle.dp_drive.specs.steps.Carried.{Carried, Finishes}
use Rattle.dp_drive.specs.steps.Carried as carried
use Rattle.dp_drive.specs.steps.Given.{WereLoaded}
use Rattle.dp_drive.specs.steps.Saved.{status_at}
use Rattle.dp_drive.proofs.RunLemmas.{ReadsRun, WereRead, all_alone, all_behind, carry_done, last_refused, plans_behind, same_faults, same_names, texts_read}
use Rattle.dp_drive.proofs.VerbLemmas.{finishes_audit, finishes_log, finishes_resume, finishes_save}

-- a log and a checkpoint that were loaded
pub log_gives : (contents : Contents) (name : List ℕ) (faults after : ℕ) (failed fails : FailedNames) (r : Result (Loaded (List ℕ)) Wanting) →
    IfOk r (Loads_ (LoadsLog contents name)) → FaultsAfterLoad r faults after →
    fails ≡ option_map (names_after r name) failed → IfOk r (GivesLoaded (LoadsLog contents name) (Some name) faults after failed fails)
log_gives contents name faults after failed fails r h e f =
    gives (LoadsLog contents name) (LoadsLog contents name) (λ o k. k) name faults after failed fails r h e f

pub checkpoint_gives : (contents : Contents) (p : Program) (name : List ℕ) (faults after : ℕ) (failed fails : FailedNames) (r : Result (Loaded Point) Wanting) →
    IfOk r (Loads_ (LoadsCheckpoint contents p name)) → FaultsAfterLoad r faults after →
    fails ≡ option_map (names_after r name) failed → IfOk r (GivesLoaded (LoadsCheckpoint contents p name) (Some name) faults after failed fails)
checkpoint_gives contents p name faults after failed fails r h e f =
    gives (LoadsCheckpoint contents p name) (LoadsCheckpoint contents p name) (λ o k. k) name faults after failed fails r h e f

-- a checkpoint that was read fits its program
read_fits : (p : Program) (text : List ℕ) (c : Point) (o : Result Point Refusal) → ReadsCheckpoint p text o → o ≡ Ok c → Fits p c
read_fits p text c o (CheckpointTooLong h) e = absurd (cc e)
read_fits p text c o (NoCheckpoint line h r) e = absurd (cc e)
read_fits p text c o (CheckpointTaken d h r) e = let same : d ≡ c = cc e in subst (Fits p) same r.fits

pub loaded_fits : (contents : Contents) (p : Program) (name : List ℕ) (faults after : ℕ) (failed fails : FailedNames) (c : Point) →
    GivesLoaded (LoadsCheckpoint contents p name) (Some name) faults after failed fails (Text c) → Fits p c
loaded_fits contents p name faults after failed fails c g = read_fits p g.0.text c (Ok c) g.0.reads refl

pub for_run : (run : RunAsked) → ReadsRun (ToRun run) run
for_run run = record { program = refl; input = refl; plans = refl; unlisted = refl }

pub for_log : (run : RunAsked) → ReadsRun (ToLog run) run
for_log run = record { program = refl; input = refl; plans = refl; unlisted = refl }

pub for_audit : (run : RunAsked) (log : List ℕ) → ReadsRun (ToAudit run log) run
for_audit run log = record { program = refl; input = refl; plans = refl; unlisted = refl }

pub for_save : (run : RunAsked) (place : Place) → ReadsRun (ToSave run place) run
for_save run place = record { program = refl; input = refl; plans = refl; unlisted = refl }

pub for_resume : (run : RunAsked) (name : List ℕ) → ReadsRun (ToResume run name) run
for_resume run name = record { program = refl; input = refl; plans = refl; unlisted = refl }

module _ (words : List (List ℕ)) (contents : Contents) (faults after : ℕ) (failed fails : FailedNames) (told tells : Option (List ℕ)) (run : RunAsked)
    (q : Program) (numbers : List ℤ) (plans : List Plan) (result : Result ℕ WriteFail) where
  abbrev Loads : Type 0
  Loads = LoadsTexts contents run faults after failed fails (texts.Run q numbers plans)

  abbrev Carries : Type 0
  Carries = Carried words contents faults after failed fails told tells result

  pub carry_log : Asks words (ToLog run) → Loads → Finishes (exit_status (source_run q numbers run.fuel).end)
      (log_bytes q plans (source_run q numbers run.fuel)) told tells result → Carries
  carry_log asks h finishes =
      let t : WereRead contents (ToLog run) run (for_log run) q numbers plans = texts_read contents (ToLog run) run (for_log run) q numbers plans faults
      after failed fails h in
      carry_done contents (ToLog run) run (for_log run) words asks faults after failed fails told tells result ((((t.source, numbers), []), plans), Nothing) _
      (all_alone contents (ToLog run) run (for_log run) q numbers plans t refl) refl (same_faults h) (same_names h)
      (finishes_log t.source q t.is (read_checked t.reads.text t.source t.reads.reads) (inlined_read t.reads.text t.source t.reads.reads) told tells result
      plans numbers run.fuel finishes)

  pub carry_save : (place : Place) → Asks words (ToSave run place) → Loads →
      Finishes (status_at (saved_end q numbers run.fuel place.region place.after)) (saved_bytes q plans numbers run.fuel place.region place.after) told
      tells result → Carries
  carry_save place asks h finishes =
      let t : WereRead contents (ToSave run place) run (for_save run place) q numbers plans = texts_read contents (ToSave run place) run (for_save run place) q
      numbers plans faults after failed fails h in
      carry_done contents (ToSave run place) run (for_save run place) words asks faults after failed fails told tells result
      ((((t.source, numbers), []), plans), Nothing) _
      (all_alone contents (ToSave run place) run (for_save run place) q numbers plans t refl) refl (same_faults h) (same_names h)
      (finishes_save t.source q t.is (read_checked t.reads.text t.source t.reads.reads) (inlined_read t.reads.text t.source t.reads.reads) told tells result
      plans numbers run.fuel place finishes)

-- behind the run's texts a log or a checkpoint is read
module _ (words : List (List ℕ)) (contents : Contents) (faults after : ℕ) (failed fails : FailedNames) (told tells : Option (List ℕ)) (run : RunAsked)
    (q : Program) (numbers : List ℤ) (plans : List Plan) (result : Result ℕ WriteFail)
    (were : WereLoaded contents run faults failed q numbers plans) (name : List ℕ) where
  abbrev Carried_ : Type 0
  Carried_ = Carried words contents faults after failed fails told tells result

  abbrev LogGives : Loaded (List ℕ) → Type 0
  LogGives = GivesLoaded (LoadsLog contents name) (Some name) faults after failed fails

  module _ (asks : Asks words (ToAudit run name)) where
    abbrev to_audit : Asked
    to_audit = ToAudit run name

    log_texts : WereRead contents to_audit run (for_audit run name) q numbers plans
    log_texts = texts_read contents to_audit run (for_audit run name) q numbers plans faults faults failed failed were

    last_log : (read : Result (List ℕ) Refusal) → LoadsLog contents name read → LastOf contents (expand log_texts.source) (Some (Log name)) (logged read)
    last_log read h = LastLog name h.text read h.held h.reads

    pub carry_audit : (text : List ℕ) → LogGives (Text text) →
        Finishes (audit_status (first_difference text (log_bytes q plans (source_run q numbers run.fuel))))
        (audit_line (first_difference text (log_bytes q plans (source_run q numbers run.fuel)))) told tells result → Carried_
    carry_audit text g finishes =
        let t = log_texts in
        carry_done contents to_audit run (for_audit run name) words asks faults after failed fails told tells result
        ((((t.source, numbers), []), plans), Logged text) _
        (all_behind contents to_audit run (for_audit run name) q numbers plans t (Logged text) (last_log (Ok text) g.0)) refl g.1 g.2
        (finishes_audit t.source q t.is (read_checked t.reads.text t.source t.reads.reads) (inlined_read t.reads.text t.source t.reads.reads) told tells result
        plans numbers run.fuel text finishes)

    pub carry_log_refused : (refusal : Refusal) → LogGives (Refused refusal) → Finishes (refusal_status refusal) (refusal_line refusal) told
        tells result → Carried_
    carry_log_refused refusal g finishes =
        carried.OfAnswer _ _ (answers.Refused to_audit refusal asks (last_refused contents to_audit run (for_audit run name) q numbers plans log_texts refusal
        (last_log (Err refusal) g.0))) g.1 g.2 finishes

    pub carry_log_failed : LogGives Failed → Finishes 5 (failed_read_line role.Log) told tells result → Carried_
    carry_log_failed g finishes =
        let same : name ≡ g.0 = cc g.1 in
        carried.OfFailedRead _ _ (subst (λ (n : List ℕ). answers.IsRead words contents role.Log n) same
        (OfLast to_audit (((log_texts.source, numbers), []), plans) (Log name) asks (plans_behind contents to_audit run (for_audit run name) q numbers plans
        log_texts) refl)) g.2 g.3 finishes

  abbrev PointGives : Loaded Point → Type 0
  PointGives = GivesLoaded (LoadsCheckpoint contents q name) (Some name) faults after failed fails

  module _ (asks : Asks words (ToResume run name)) where
    abbrev to_resume : Asked
    to_resume = ToResume run name

    point_texts : WereRead contents to_resume run (for_resume run name) q numbers plans
    point_texts = texts_read contents to_resume run (for_resume run name) q numbers plans faults faults failed failed were

    last_point : (read : Result Point Refusal) → LoadsCheckpoint contents q name read →
        LastOf contents (expand point_texts.source) (Some (Checkpoint name)) (saved_at read)
    last_point read h = subst (λ (x : Program). LastOf contents x (Some (Checkpoint name)) (saved_at read)) point_texts.is
        (LastCheckpoint name h.text read h.held h.reads)

    pub carry_resume : (c : Point) → PointGives (Text c) → Finishes (exit_status (resumed_run q numbers c).end) (resumed_bytes q plans numbers c) told
        tells result → Carried_
    carry_resume c g finishes =
        let t = point_texts in
        carry_done contents to_resume run (for_resume run name) words asks faults after failed fails told tells result
        ((((t.source, numbers), []), plans), SavedAt c) _
        (all_behind contents to_resume run (for_resume run name) q numbers plans t (SavedAt c) (last_point (Ok c) g.0)) refl g.1 g.2
        (finishes_resume t.source q t.is (read_checked t.reads.text t.source t.reads.reads) (inlined_read t.reads.text t.source t.reads.reads) told tells result
        plans numbers c finishes)

    pub carry_point_refused : (refusal : Refusal) → PointGives (Refused refusal) → Finishes (refusal_status refusal) (refusal_line refusal) told
        tells result → Carried_
    carry_point_refused refusal g finishes =
        carried.OfAnswer _ _ (answers.Refused to_resume refusal asks (last_refused contents to_resume run (for_resume run name) q numbers plans point_texts
        refusal (last_point (Err refusal) g.0))) g.1 g.2 finishes

    pub carry_point_failed : PointGives Failed → Finishes 5 (failed_read_line role.Checkpoint) told tells result → Carried_
    carry_point_failed g finishes =
        let same : name ≡ g.0 = cc g.1 in
        carried.OfFailedRead _ _ (subst (λ (n : List ℕ). answers.IsRead words contents role.Checkpoint n) same
        (OfLast to_resume (((point_texts.source, numbers), []), plans) (Checkpoint name) asks (plans_behind contents to_resume run (for_resume run name) q
        numbers plans point_texts) refl)) g.2 g.3 finishes
