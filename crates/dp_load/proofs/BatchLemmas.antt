-- What the texts of a batch give, from what each of them was loaded as.
use Rattle.std.proofs.Common.{◌≡◌, refl, sym, ◌∙◌, ap, subst, ℕ, ◌<◌, List, All, ℤ, Some, Result, Ok, Err, IfOk, IsUtf8}
use Rattle.std.specs.Option.{option_map}
use Rattle.dp_room.specs.declared.NoMemory.{NoMemory}
use Rattle.dp_text.specs.Lines.{lines_of}
use Rattle.dp_tree.specs.declared.Program.{Program}
use Rattle.dp_list.specs.ListText.{ListLines}
use Rattle.dp_plan.specs.declared.Plan.{Plan}
use Rattle.dp_plan.specs.GivenPlans.{ArePlans}
use Rattle.dp_words.specs.Run.{RunAsked}
use Rattle.dp_refusal.specs.declared.role.Role.{Role}
use Rattle.dp_refusal.specs.declared.role.Role.TheVariants as role
use Rattle.dp_refusal.specs.declared.refusal.Refusal.{Refusal}
use Rattle.dp_refusal.specs.Refusal.{plans_role}
use Rattle.dp_load.specs.declared.batch.BatchTexts.TheVariants as texts
use Rattle.dp_load.specs.declared.batch.Listed.{Listed}
use Rattle.dp_load.specs.declared.batch.Listed.TheVariants as listed
use Rattle.dp_load.specs.declared.load.Loaded.{Loaded}
use Rattle.dp_load.specs.declared.load.Loaded.TheVariants.{Text, Refused, Failed}
use Rattle.dp_load.specs.Batches.{LoadsBatch, LoadsInputs, BatchLoaded, InputNotRead, InputsRefused, ListNotRead, PlansFailed, PlansRefused, ProgramFailed}
use Rattle.dp_load.specs.Batches.{ProgramRefused}
use Rattle.dp_load.specs.Batches as loads
use Rattle.dp_load.specs.Lists.{Inputs, LoadsList, ListRefused, ReadsList, NoList, Taken, TooLong}
use Rattle.dp_load.specs.Lists as lists
use Rattle.dp_load.specs.Loading.{FaultsAfterLoad, GivesLoaded, Loads, ReadsProgram, names_after}
use Rattle.dp_load.specs.Roles.{Contents, Plans, source_name}
use Rattle.dp_load.specs.Texts.{FailedNames, with_failed_name}
use Rattle.dp_load.specs.steps.Each.{EachRead, LoadsEach, OneUnfit, OneUnread}
use Rattle.dp_load.proofs.TextsLemmas.{ProgramGives, Source, gives, refusal_read, source_of}

-- ---- the list

names_listed : {text : List ℕ} {o : Result (List (List ℕ)) Refusal} (names : List (List ℕ)) → ReadsList text o → o ≡ Ok names → ListLines (lines_of text) names
names_listed names (TooLong h) e = absurd (cc e)
names_listed names (NoList line h r) e = absurd (cc e)
names_listed {text = text} names (Taken others h t) e = let same : others ≡ names = cc e in subst (ListLines (lines_of text)) same t

-- the names of a list are texts
pub text_names : {contents : Contents} {list : List ℕ} {names : List (List ℕ)} → LoadsList contents list (Ok names) → All IsUtf8 names
text_names {names = names} h = λ k d lt. ((names_listed names h.reads refl).listed k d lt).text

module _ (contents : Contents) (list : List ℕ) (faults one : ℕ) (failed fails : FailedNames) where
  abbrev pub ListGives : Loaded (List (List ℕ)) → Type 0
  ListGives = GivesLoaded (LoadsList contents list) (Some list) faults one failed fails

  pub list_gives : (r : Result (Loaded (List (List ℕ))) NoMemory) → IfOk r (Loads (LoadsList contents list)) → FaultsAfterLoad r faults one →
      fails ≡ option_map (names_after r list) failed → IfOk r ListGives
  list_gives r h f e = gives (LoadsList contents list) (LoadsList contents list) (λ o k. k) list faults one failed fails r h f e

  pub list_refused : (refusal : Refusal) → ListGives (Refused refusal) → LoadsInputs contents list faults one failed fails (listed.Refused refusal)
  list_refused refusal g = loads.Refused refusal (ListRefused list g.0.text refusal g.0.held g.0.reads) g.1 g.2

  pub list_failed : ListGives Failed → LoadsInputs contents list faults one failed fails (listed.Failed role.List)
  list_failed g = let same : list ≡ g.0 = cc g.1 in loads.ListFailed g.2 (g.3 ∙ ap (λ (n : List ℕ). with_failed_name n failed) (sym same))

  module _ (names : List (List ℕ)) (g : ListGives (Text names)) (two : ℕ) (more : FailedNames) where
    each_loaded : {x : Listed} → LoadsEach contents names one two fails more x → LoadsInputs contents list faults two failed more x
    each_loaded (EachRead inputs t e f) = loads.Loaded inputs (lists.Listed list g.0.text names (Ok inputs) g.0.held g.0.reads t) (e ∙ g.1) (f ∙ g.2)
    each_loaded (OneUnfit refusal t e f) = loads.Refused refusal (lists.Listed list g.0.text names (Err refusal) g.0.held g.0.reads t) (e ∙ g.1) (f ∙ g.2)
    each_loaded (OneUnread before behind name inputs is t less e) =
        loads.InputFailed name
        (record {
          text = g.0.text;
          before = before;
          behind = behind;
          inputs = inputs;
          held = g.0.held;
          listed = subst (λ (ns : List (List ℕ)). ReadsList
              g.0.text (Ok ns)) is g.0.reads;
          reads = t;
        })
        (subst (λ (k : ℕ). k < two) g.1 less) (e ∙ ap (with_failed_name name) g.2)

    pub inputs_loaded : (r : Result Listed NoMemory) → IfOk r (LoadsEach contents names one two fails more) →
        IfOk r (LoadsInputs contents list faults two failed more)
    inputs_loaded (Ok x) h = each_loaded h
    inputs_loaded (Err e) h = tt

-- ---- the whole

module _ (contents : Contents) (run : RunAsked) (list : List ℕ) (faults one : ℕ) (failed names : FailedNames) where
  pub program_refused : (refusal : Refusal) → ProgramGives contents run faults one failed names (Refused refusal) →
      LoadsBatch contents run list faults one failed names (texts.Refused refusal)
  program_refused refusal g = ProgramRefused refusal (refusal_read (ReadsProgram contents run.program) refusal g.0) g.1 g.2

  pub program_failed : ProgramGives contents run faults one failed names Failed → LoadsBatch contents run list faults one failed names
      (texts.Failed role.Program)
  program_failed g = let same : run.program ≡ g.0 = cc g.1 in ProgramFailed g.2 (g.3 ∙ ap (λ (n : List ℕ). with_failed_name n failed) (sym same))

  module _ (two : ℕ) (more : FailedNames) (q : Program) (g : ProgramGives contents run faults one failed names (Text q)) where
    s : Source (ReadsProgram contents run.program) q
    s = source_of (ReadsProgram contents run.program) q g.0

    abbrev pub InputsLoad : Listed → Type 0
    InputsLoad = LoadsInputs contents list one two names more

    pub inputs_refused : {refusal : Refusal} → InputsLoad (listed.Refused refusal) → LoadsBatch contents run list faults two failed more (texts.Refused refusal)
    inputs_refused (loads.Refused refusal h e f) = InputsRefused refusal s.source s.reads h (e ∙ g.1) (f ∙ g.2)

    pub inputs_failed : {which : Role} → InputsLoad (listed.Failed which) → LoadsBatch contents run list faults two failed more (texts.Failed which)
    inputs_failed (loads.ListFailed less e) = ListNotRead s.source s.reads (subst (λ (k : ℕ). k < two) g.1 less) (e ∙ ap (with_failed_name list) g.2)
    inputs_failed (loads.InputFailed name next less e) =
        InputNotRead s.source name s.reads next (subst (λ (k : ℕ). k < two) g.1 less) (e ∙ ap (with_failed_name name) g.2)

    read_inputs : {inputs : List (List ℤ)} → InputsLoad (listed.Inputs inputs) → Inputs contents (Some list) (Ok inputs) × (two ≡ one) × (more ≡ names)
    read_inputs (loads.Loaded inputs h e f) = (h, e, f)

    module _ (three : ℕ) (last : FailedNames) (inputs : List (List ℤ)) (h : InputsLoad (listed.Inputs inputs)) where
      abbrev pub PlansGive : Loaded (List Plan) → Type 0
      PlansGive = GivesLoaded (Plans contents q run.options run.source) (source_name run.source) two three more last

      pub plans_refused : (refusal : Refusal) → PlansGive (Refused refusal) → LoadsBatch contents run list faults three failed last (texts.Refused refusal)
      plans_refused refusal k =
          let i = read_inputs h in
          PlansRefused refusal s.source inputs s.reads i.0 (subst (λ (x : Program). Plans contents x run.options run.source (Err refusal)) s.is k.0) (k.1 ∙ i.1
          ∙ g.1) (k.2 ∙ i.2 ∙ g.2)

      pub plans_failed : (which : Role) → which ≡ plans_role run.source → PlansGive Failed → LoadsBatch contents run list faults three failed last
          (texts.Failed which)
      plans_failed which is k =
          let i = read_inputs h in
          let less : faults < three = subst (λ (n : ℕ). n < three) (i.1 ∙ g.1) k.2 in
          subst (λ (r : Role). LoadsBatch contents run list faults three failed last (texts.Failed r)) (sym is)
          (PlansFailed s.source inputs k.0 s.reads i.0 k.1 less (k.3 ∙ ap (with_failed_name k.0) (i.2 ∙ g.2)))

      pub batch_loaded : (plans : List Plan) → PlansGive (Text plans) → ArePlans q plans → LoadsBatch contents run list faults three failed last
          (texts.Run q inputs plans)
      batch_loaded plans k fit =
          let i = read_inputs h in
          BatchLoaded s.source q inputs plans s.is s.reads i.0 k.0 fit (k.1 ∙ i.1 ∙ g.1) (k.2 ∙ i.2 ∙ g.2)
