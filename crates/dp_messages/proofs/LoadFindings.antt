-- What each load gives is what is found of the words.
use Rattle.std.proofs.Common.{◌≡◌, refl, sym, ◌∙◌, subst, arith, ℕ, ◌<◌, IfOk, List, [], ℤ, Option, Some, Result, Ok, Err}
use Rattle.dp_tree.specs.declared.Program.{Program}
use Rattle.dp_calls.specs.Expand.{expand}
use Rattle.dp_plan.specs.declared.Plan.{Plan}
use Rattle.dp_save.specs.declared.Checkpoint.{Checkpoint as Point}
use Rattle.dp_words.specs.Run.{Least, RunAsked}
use Rattle.dp_words.specs.Planning.{Planning}
use Rattle.dp_words.specs.Profiling.{Profiling}
use Rattle.dp_words.specs.Words.{Asked, Asks, ToAudit, ToBatch, ToProfile, ToResume}
use Rattle.dp_refusal.specs.declared.role.Role.{Role}
use Rattle.dp_refusal.specs.declared.role.Role.TheVariants as role
use Rattle.dp_refusal.specs.declared.refusal.Refusal.{Refusal}
use Rattle.dp_load.specs.declared.load.Loaded.{Loaded}
use Rattle.dp_load.specs.declared.load.Loaded.TheVariants as loaded
use Rattle.dp_load.specs.declared.texts.Texts.{Texts}
use Rattle.dp_load.specs.declared.texts.Texts.TheVariants as texts
use Rattle.dp_load.specs.declared.batch.BatchTexts.{BatchTexts}
use Rattle.dp_load.specs.declared.batch.BatchTexts.TheVariants as batch
use Rattle.dp_load.specs.Alone.{ReadsLeastPlans, ReadsProgramAlone}
use Rattle.dp_load.specs.Batches.{LoadsBatch}
use Rattle.dp_load.specs.Last.{Checkpoint, LastCheckpoint, LastLog, LastOf, Nothing, SavedAt, Logged, saved_at}
use Rattle.dp_room.specs.declared.NoMemory.{NoMemory as Wanting}
use Rattle.dp_load.specs.Loading.{FaultsAfterLoad, GivesLoaded, Loads, LoadsCheckpoint, LoadsLog, LoadsProgram, ReadsProgram}
use Rattle.dp_load.specs.Roles.{Contents, Input, NoPlans, Plans, ProgramOf, program_in}
use Rattle.dp_load.specs.Texts.{LoadsTexts, FailedNames}
use Rattle.dp_load.specs.Texts as loads
use Rattle.dp_load.proofs.AloneLemmas as alone
use Rattle.dp_load.proofs.OrderLemmas.{all_read, ends_at_input, ends_at_program}
use Rattle.dp_load.proofs.TextsLemmas.{refusal_read, source_of}
use Rattle.dp_messages.specs.Finding.{Finds, IsRead, IsRefused, IsUnread}
use Rattle.dp_messages.specs.declared.reason.Finding.TheVariants as finding
use Rattle.dp_messages.specs.steps.Found.{found_in, found_in_batch, found_in_run}
use Rattle.dp_messages.specs.steps.Runs.{ReadsRunAlone}
use Rattle.dp_messages.proofs.FindingLemmas.{alone_read, batch_read, batch_refused, batch_unread, for_audit, for_resume, last_refused, named, run_read}
use Rattle.dp_messages.proofs.FindingLemmas.{run_refused, run_unread}

-- one text that was loaded: what its results say, where the result is known
pub read_refused : {X : Type 0} (P : Result X Refusal → Type 0) (r : Result (Loaded X) Wanting) (refusal : Refusal) → r ≡ Ok (loaded.Refused refusal) →
    IfOk r (Loads P) → P (Err refusal)
read_refused P r refusal e h = rw e at h

pub read_text : {X : Type 0} (P : Result X Refusal → Type 0) (r : Result (Loaded X) Wanting) (x : X) → r ≡ Ok (loaded.Text x) → IfOk r (Loads P) → P (Ok x)
read_text P r x e h = rw e at h

pub same_refused : {X : Type 0} (r : Result (Loaded X) Wanting) (refusal : Refusal) (faults after : ℕ) → r ≡ Ok (loaded.Refused refusal) →
    FaultsAfterLoad r faults after → after ≡ faults
same_refused r refusal faults after e h = rw e at h

pub same_text : {X : Type 0} (r : Result (Loaded X) Wanting) (x : X) (faults after : ℕ) → r ≡ Ok (loaded.Text x) →
    FaultsAfterLoad r faults after → after ≡ faults
same_text r x faults after e h = rw e at h

pub more_failed : {X : Type 0} (r : Result (Loaded X) Wanting) (faults after : ℕ) → r ≡ Ok loaded.Failed → FaultsAfterLoad r faults after → faults < after
more_failed r faults after e h = rw e at h

-- the faults behind the texts of a run that were read
pub run_faults : {contents : Contents} {run : RunAsked} {faults after : ℕ} {failed fails : FailedNames} {q : Program} {numbers : List ℤ} {plans : List Plan} →
    LoadsTexts contents run faults after failed fails (texts.Run q numbers plans) → after ≡ faults
run_faults (loads.Loaded p x others given is h k l fit e f) = e

-- behind the texts of a run a log or a checkpoint is read
module _ (contents : Contents) (run : RunAsked) (name : List ℕ) (words : List (List ℕ)) (faults mid after : ℕ) (failed fails : FailedNames) (q : Program)
    (numbers : List ℤ) (plans : List Plan)
    (h : LoadsTexts contents run faults mid failed fails (texts.Run q numbers plans)) where
  pub behind_unread : (which : Role) → mid < after → Finds words contents faults after (finding.Unread which)
  behind_unread which less = let same : mid ≡ faults = run_faults h in IsUnread which (omega (arith, less, same))

  module _ (asks : Asks words (ToAudit run name)) where
    pub log_refused : (refusal : Refusal) → LoadsLog contents name (Err refusal) → after ≡ mid → Finds words contents faults after (finding.Refused refusal)
    log_refused refusal k e =
        subst (λ (n : ℕ). Finds words contents faults n (finding.Refused refusal)) (sym e)
        (last_refused contents (ToAudit run name) run (for_audit run name) words asks faults mid failed fails q numbers plans refusal h
        (λ p is. LastLog name k.text (Err refusal) k.held k.reads))

    pub log_read : (text : List ℕ) → LoadsLog contents name (Ok text) → after ≡ mid → Finds words contents faults after finding.Nothing
    log_read text k e =
        subst (λ (n : ℕ). Finds words contents faults n finding.Nothing) (sym e)
        (run_read contents (ToAudit run name) run (for_audit run name) words asks faults mid failed fails q numbers plans (Logged text) h
        (λ p is. LastLog name k.text (Ok text) k.held k.reads))

  module _ (asks : Asks words (ToResume run name)) where
    last_point : (p : Program) (read : Result Point Refusal) → q ≡ expand p → LoadsCheckpoint contents q name read →
        LastOf contents (expand p) (Some (Checkpoint name)) (saved_at read)
    last_point p read is k =
        subst (λ (x : Program). LastOf contents x (Some (Checkpoint name)) (saved_at read)) is (LastCheckpoint name k.text read k.held k.reads)

    pub point_refused : (refusal : Refusal) → LoadsCheckpoint contents q name (Err refusal) → after ≡ mid →
        Finds words contents faults after (finding.Refused refusal)
    point_refused refusal k e =
        subst (λ (n : ℕ). Finds words contents faults n (finding.Refused refusal)) (sym e)
        (last_refused contents (ToResume run name) run (for_resume run name) words asks faults mid failed fails q numbers plans refusal h
        (λ p is. last_point p (Err refusal) is k))

    pub point_read : (c : Point) → LoadsCheckpoint contents q name (Ok c) → after ≡ mid → Finds words contents faults after finding.Nothing
    point_read c k e =
        subst (λ (n : ℕ). Finds words contents faults n finding.Nothing) (sym e)
        (run_read contents (ToResume run name) run (for_resume run name) words asks faults mid failed fails q numbers plans (SavedAt c) h
        (λ p is. last_point p (Ok c) is k))

-- a program alone that is refused
pub program_refused : (contents : Contents) (asked : Asked) (name : List ℕ) (words : List (List ℕ)) (faults after : ℕ) (refusal : Refusal) → Asks words asked →
    program_in asked ≡ Some name → LoadsProgram contents name (Err refusal) → after ≡ faults →
    Finds words contents faults after (finding.Refused refusal)
program_refused contents asked name words faults after refusal asks is h e =
    let read = named (refusal_read (ReadsProgram contents name) refusal h) in
    IsRefused asked refusal asks (ends_at_program contents asked refusal (subst (λ (o : Option (List ℕ)). ProgramOf contents o (Err refusal)) (sym is) read)) e

-- .. and one that is read
pub program_read : (contents : Contents) (asked : Asked) (name : List ℕ) → ReadsProgramAlone asked name →
    (words : List (List ℕ)) (faults after : ℕ) (q : Program) → Asks words asked → LoadsProgram contents name (Ok q) → after ≡ faults →
    Finds words contents faults after finding.Nothing
program_read contents asked name of words faults after q asks h e =
    let s = source_of (ReadsProgram contents name) q h in
    IsRead asked ((((s.source, []), []), []), Nothing) asks (alone.program_alone contents asked name of s.source s.reads) e

-- behind a program that was read
module _ (contents : Contents) (words : List (List ℕ)) (faults mid after : ℕ) (failed fails : FailedNames) (q : Program) (same : mid ≡ faults) where
  module _ (asked : Asked) (planning : Planning) (of : ReadsLeastPlans asked planning) (asks : Asks words asked)
      (h : LoadsProgram contents planning.program (Ok q)) where
    abbrev LeastOf : Program → Result (List Plan) Refusal → Type 0
    LeastOf x made = Plans contents x planning.options (Least planning.profile) made

    abbrev LeastGives : Loaded (List Plan) → Type 0
    LeastGives = GivesLoaded (LeastOf q) planning.profile mid after failed fails

    pub least_refused : (refusal : Refusal) → LeastGives (loaded.Refused refusal) → Finds words contents faults after (finding.Refused refusal)
    least_refused refusal g =
        let s = source_of (ReadsProgram contents planning.program) q h in
        IsRefused asked refusal asks (alone.least_refused contents asked planning of s.source s.reads refusal
        (subst (λ (x : Program). LeastOf x (Err refusal)) s.is g.0)) (g.1 ∙ same)

    pub least_read : (plans : List Plan) → LeastGives (loaded.Text plans) → Finds words contents faults after finding.Nothing
    least_read plans g =
        let s = source_of (ReadsProgram contents planning.program) q h in
        IsRead asked ((((s.source, []), []), plans), Nothing) asks (alone.least_read contents asked planning of s.source s.reads plans
        (subst (λ (x : Program). LeastOf x (Ok plans)) s.is g.0)) (g.1 ∙ same)

    pub least_unread : (which : Role) → LeastGives loaded.Failed → Finds words contents faults after (finding.Unread which)
    least_unread which g = let less = g.2 in IsUnread which (omega (arith, less, same))

  module _ (profiling : Profiling) (asks : Asks words (ToProfile profiling)) (h : LoadsProgram contents profiling.program (Ok q)) where
    abbrev InputGives : Loaded (List ℤ) → Type 0
    InputGives = GivesLoaded (Input contents profiling.input) profiling.input mid after failed fails

    pub input_refused : (refusal : Refusal) → InputGives (loaded.Refused refusal) → Finds words contents faults after (finding.Refused refusal)
    input_refused refusal g =
        let s = source_of (ReadsProgram contents profiling.program) q h in
        IsRefused (ToProfile profiling) refusal asks (ends_at_input contents (ToProfile profiling) s.source (named s.reads) refusal g.0) (g.1 ∙ same)

    pub input_read_too : (numbers : List ℤ) → InputGives (loaded.Text numbers) → Finds words contents faults after finding.Nothing
    input_read_too numbers g =
        let s = source_of (ReadsProgram contents profiling.program) q h in
        IsRead (ToProfile profiling) ((((s.source, numbers), []), []), Nothing) asks (all_read contents (ToProfile profiling) s.source (named s.reads) numbers
        g.0 refl [] NoPlans refl) (g.1 ∙ same)

    pub input_unread : (which : Role) → InputGives loaded.Failed → Finds words contents faults after (finding.Unread which)
    input_unread which g = let less = g.2 in IsUnread which (omega (arith, less, same))

-- what is found of a program alone
pub program_finds : (contents : Contents) (asked : Asked) (name : List ℕ) → ReadsProgramAlone asked name →
    (words : List (List ℕ)) (faults after : ℕ) (r : Result (Loaded Program) Wanting) (l : Loaded Program) → r ≡ Ok l → Asks words asked →
    IfOk r (Loads (LoadsProgram contents name)) → FaultsAfterLoad r faults after →
    Finds words contents faults after (found_in role.Program l)
program_finds contents asked name of words faults after r (loaded.Text q) is asks h e =
    program_read contents asked name of words faults after q asks (read_text (LoadsProgram contents name) r q is h) (same_text r q faults after is e)
program_finds contents asked name of words faults after r (loaded.Refused refusal) is asks h e =
    program_refused contents asked name words faults after refusal asks of.program (read_refused (LoadsProgram contents name) r refusal is h)
    (same_refused r refusal faults after is e)
program_finds contents asked name of words faults after r loaded.Failed is asks h e = IsUnread role.Program (more_failed r faults after is e)

-- .. of the texts of a run alone
pub run_finds : (contents : Contents) (asked : Asked) (run : RunAsked) → ReadsRunAlone asked run → (words : List (List ℕ)) → Asks words asked →
    (faults after : ℕ) (failed fails : FailedNames) (r : Result Texts Wanting) (l : Texts) → r ≡ Ok l →
    IfOk r (LoadsTexts contents run faults after failed fails) →
    Finds words contents faults after (found_in_run l)
run_finds contents asked run of words asks faults after failed fails r (texts.Run q numbers plans) is h =
    alone_read contents asked run of words asks faults after failed fails q numbers plans (rw is at h)
run_finds contents asked run of words asks faults after failed fails r (texts.Refused refusal) is h =
    run_refused contents asked run of.texts words asks faults after failed fails refusal (rw is at h)
run_finds contents asked run of words asks faults after failed fails r (texts.Failed which) is h =
    run_unread contents asked run of.texts words asks faults after failed fails which (rw is at h)

-- .. of those of a batch
pub batch_finds : (contents : Contents) (run : RunAsked) (list : List ℕ) (words : List (List ℕ)) → Asks words (ToBatch run list) →
    (faults after : ℕ) (failed fails : FailedNames) (r : Result BatchTexts Wanting) (l : BatchTexts) → r ≡ Ok l →
    IfOk r (LoadsBatch contents run list faults after failed fails) →
    Finds words contents faults after (found_in_batch l)
batch_finds contents run list words asks faults after failed fails r (batch.Run q inputs plans) is h =
    batch_read contents run list words asks faults after failed fails q inputs plans (rw is at h)
batch_finds contents run list words asks faults after failed fails r (batch.Refused refusal) is h =
    batch_refused contents run list words asks faults after failed fails refusal (rw is at h)
batch_finds contents run list words asks faults after failed fails r (batch.Failed which) is h =
    batch_unread contents run list words asks faults after failed fails which (rw is at h)

-- what is found of the text behind those of a run
module _ (contents : Contents) (run : RunAsked) (name : List ℕ) (words : List (List ℕ)) (faults mid after : ℕ) (failed fails : FailedNames) (q : Program)
    (numbers : List ℤ) (plans : List Plan)
    (h : LoadsTexts contents run faults mid failed fails (texts.Run q numbers plans)) where
  pub log_finds : (r : Result (Loaded (List ℕ)) Wanting) (l : Loaded (List ℕ)) → r ≡ Ok l → Asks words (ToAudit run name) →
      IfOk r (Loads (LoadsLog contents name)) → FaultsAfterLoad r mid after → Finds words contents faults after (found_in role.Log l)
  log_finds r (loaded.Text text) is asks k e =
      log_read contents run name words faults mid after failed fails q numbers plans h asks text (read_text (LoadsLog contents name) r text is k)
      (same_text r text mid after is e)
  log_finds r (loaded.Refused refusal) is asks k e =
      log_refused contents run name words faults mid after failed fails q numbers plans h asks refusal (read_refused (LoadsLog contents name) r refusal is k)
      (same_refused r refusal mid after is e)
  log_finds r loaded.Failed is asks k e =
      behind_unread contents run name words faults mid after failed fails q numbers plans h role.Log (more_failed r mid after is e)

  pub point_finds : (r : Result (Loaded Point) Wanting) (l : Loaded Point) → r ≡ Ok l → Asks words (ToResume run name) →
      IfOk r (Loads (LoadsCheckpoint contents q name)) → FaultsAfterLoad r mid after →
      Finds words contents faults after (found_in role.Checkpoint l)
  point_finds r (loaded.Text c) is asks k e =
      point_read contents run name words faults mid after failed fails q numbers plans h asks c (read_text (LoadsCheckpoint contents q name) r c is k)
      (same_text r c mid after is e)
  point_finds r (loaded.Refused refusal) is asks k e =
      point_refused contents run name words faults mid after failed fails q numbers plans h asks refusal
      (read_refused (LoadsCheckpoint contents q name) r refusal is k) (same_refused r refusal mid after is e)
  point_finds r loaded.Failed is asks k e =
      behind_unread contents run name words faults mid after failed fails q numbers plans h role.Checkpoint (more_failed r mid after is e)

-- .. and behind a program
module _ (contents : Contents) (words : List (List ℕ)) (faults mid after : ℕ) (failed fails : FailedNames) (q : Program) (same : mid ≡ faults) where
  pub least_finds : (asked : Asked) (planning : Planning) → ReadsLeastPlans asked planning → Asks words asked → LoadsProgram contents planning.program (Ok q) →
      (l : Loaded (List Plan)) →
      GivesLoaded (Plans contents q planning.options (Least planning.profile)) planning.profile mid after failed fails l →
      Finds words contents faults after (found_in role.Profile l)
  least_finds asked planning of asks h (loaded.Text plans) g = least_read contents words faults mid after failed fails q same asked planning of asks h plans g
  least_finds asked planning of asks h (loaded.Refused refusal) g =
      least_refused contents words faults mid after failed fails q same asked planning of asks h refusal g
  least_finds asked planning of asks h loaded.Failed g =
      least_unread contents words faults mid after failed fails q same asked planning of asks h role.Profile g

  pub input_finds : (profiling : Profiling) → Asks words (ToProfile profiling) → LoadsProgram contents profiling.program (Ok q) → (l : Loaded (List ℤ)) →
      GivesLoaded (Input contents profiling.input) profiling.input mid after failed fails l → Finds words contents faults after (found_in role.Input l)
  input_finds profiling asks h (loaded.Text numbers) g = input_read_too contents words faults mid after failed fails q same profiling asks h numbers g
  input_finds profiling asks h (loaded.Refused refusal) g = input_refused contents words faults mid after failed fails q same profiling asks h refusal g
  input_finds profiling asks h loaded.Failed g = input_unread contents words faults mid after failed fails q same profiling asks h role.Input g
