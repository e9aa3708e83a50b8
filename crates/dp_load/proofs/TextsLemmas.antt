-- What the texts of a run give, from what each of them was loaded as.
use Rattle.std.proofs.Common.{◌≡◌, refl, sym, ◌∙◌, ap, subst, ℕ, ◌<◌, List, Option, Some, None, ℤ, Result, Ok, Err, IfOk}
use Rattle.std.specs.Option.{option_map}
use Rattle.dp_room.specs.declared.NoMemory.{NoMemory}
use Rattle.dp_tree.specs.declared.Program.{Program}
use Rattle.dp_plan.specs.declared.Plan.{Plan}
use Rattle.dp_plan.specs.GivenPlans.{ArePlans}
use Rattle.dp_words.specs.declared.task.PlanOptions.{PlanOptions}
use Rattle.dp_calls.specs.Expand.{expand}
use Rattle.dp_words.specs.Run as source
use Rattle.dp_words.specs.Run.{RunAsked, Least}
use Rattle.dp_profile.specs.declared.Profile.{Profile}
use Rattle.dp_load.specs.Plans.{MakesPlans}
use Rattle.dp_refusal.specs.declared.role.Role.{Role}
use Rattle.dp_refusal.specs.declared.role.Role.TheVariants as role
use Rattle.dp_refusal.specs.declared.refusal.Refusal.{Refusal}
use Rattle.dp_load.specs.declared.load.Loaded.{Loaded}
use Rattle.dp_load.specs.declared.load.Loaded.TheVariants.{Text, Refused, Failed}
use Rattle.dp_load.specs.declared.texts.Texts.TheVariants as texts
use Rattle.dp_load.specs.Roles.{Contents, ReadsInput, Input, Named, Profiled, NamedProfile, Plans, Automatic, ProfileRefused, Planned, some_read}
use Rattle.dp_load.specs.Roles.{source_name}
use Rattle.dp_refusal.specs.Refusal.{plans_role}
use Rattle.dp_load.specs.Program.{Expands, expanded}
use Rattle.dp_load.specs.Loading.{ReadsProgram, LoadsProgram, LoadsPlans, LoadsProfile, Loads, FaultsAfterLoad, names_after, GivesLoaded}
use Rattle.dp_load.specs.Texts.{FailedNames, with_failed_name, LoadsTexts, Loaded as LoadedTexts, ProgramRefused, InputRefused, PlansRefused, ProgramFailed}
use Rattle.dp_load.specs.Texts.{InputFailed, PlansFailed}

same_names : (names : FailedNames) → option_map (λ all. all) names ≡ names
same_names None = refl
same_names (Some all) = refl

-- one load of a named text: what it gave, and what it left of the shelf
pub gives : {X : Type 0} (P Q : Result X Refusal → Type 0) → ((o : Result X Refusal) → P o → Q o) →
    (name : List ℕ) (faults after : ℕ) (failed fails : FailedNames) (r : Result (Loaded X) NoMemory) →
    IfOk r (Loads P) → FaultsAfterLoad r faults after → fails ≡ option_map (names_after r name) failed →
    IfOk r (GivesLoaded Q (Some name) faults after failed fails)
gives P Q weaker name faults after failed fails (Ok (Text x)) h f e = (weaker (Ok x) h, f, e ∙ same_names failed)
gives P Q weaker name faults after failed fails (Ok (Refused refusal)) h f e = (weaker (Err refusal) h, f, e ∙ same_names failed)
gives P Q weaker name faults after failed fails (Ok Failed) h f e = (name, refl, f, e)
gives P Q weaker name faults after failed fails (Err x) h f e = tt

-- an input and plans that are named
pub input_named : (contents : Contents) (name : List ℕ) (o : Result (List ℤ) Refusal) → ReadsInput contents name o → Input contents (Some name) o
input_named contents name o h = Named name o h

pub plans_named : (contents : Contents) (p : Program) (options : PlanOptions) (name : List ℕ) (o : Result (List Plan) Refusal) → LoadsPlans contents p name o →
    Plans contents p options (source.Named name) o
plans_named contents p options name o h = Planned name h.text o h.held h.reads

-- a program, an input and plans that are named
pub program_gives : (contents : Contents) (name : List ℕ) (faults after : ℕ) (failed fails : FailedNames) (r : Result (Loaded Program) NoMemory) →
    IfOk r (Loads (LoadsProgram contents name)) → FaultsAfterLoad r faults after → fails ≡ option_map (names_after r name) failed →
    IfOk r (GivesLoaded (LoadsProgram contents name) (Some name) faults after failed fails)
program_gives contents name faults after failed fails r h f e =
    gives (LoadsProgram contents name) (LoadsProgram contents name) (λ o k. k) name faults after failed fails r h f e

pub input_gives : (contents : Contents) (name : List ℕ) (faults after : ℕ) (failed fails : FailedNames) (r : Result (Loaded (List ℤ)) NoMemory) →
    IfOk r (Loads (ReadsInput contents name)) → FaultsAfterLoad r faults after → fails ≡ option_map (names_after r name) failed →
    IfOk r (GivesLoaded (Input contents (Some name)) (Some name) faults after failed fails)
input_gives contents name faults after failed fails r h f e =
    gives (ReadsInput contents name) (Input contents (Some name)) (λ o k. input_named contents name o k) name faults after failed fails r h f e

pub plans_give : (contents : Contents) (p : Program) (options : PlanOptions) (name : List ℕ) (faults after : ℕ) (failed fails : FailedNames)
    (r : Result (Loaded (List Plan)) NoMemory) →
    IfOk r (Loads (LoadsPlans contents p name)) → FaultsAfterLoad r faults after → fails ≡ option_map (names_after r name) failed →
    IfOk r (GivesLoaded (Plans contents p options (source.Named name)) (Some name) faults after failed fails)
plans_give contents p options name faults after failed fails r h f e = gives (LoadsPlans contents p name) (Plans contents p options (source.Named name))
    (λ o k. plans_named contents p options name o k) name faults after failed fails r h f e

pub profile_gives : (contents : Contents) (p : Program) (name : List ℕ) (faults after : ℕ) (failed fails : FailedNames) (r : Result (Loaded Profile) NoMemory) →
    IfOk r (Loads (LoadsProfile contents p name)) → FaultsAfterLoad r faults after → fails ≡ option_map (names_after r name) failed →
    IfOk r (GivesLoaded (λ o. Profiled contents p (Some name) (some_read o)) (Some name) faults after failed fails)
profile_gives contents p name faults after failed fails r h f e =
    gives (LoadsProfile contents p name) (λ o. Profiled contents p (Some name) (some_read o)) (λ o k. NamedProfile name k.text o k.held k.reads) name faults
    after failed fails r h f e

-- the least plans, by the profile that was loaded
module _ (contents : Contents) (p : Program) (options : PlanOptions) (name : Option (List ℕ)) (faults after : ℕ) (failed fails : FailedNames) where
  abbrev CountsGive : Loaded (Option Profile) → Type 0
  CountsGive = GivesLoaded (Profiled contents p name) name faults after failed fails

  abbrev LeastGive : Loaded (List Plan) → Type 0
  LeastGive = GivesLoaded (Plans contents p options (Least name)) name faults after failed fails

  pub least_made : (profile : Option Profile) (plans : List Plan) → CountsGive (Text profile) → MakesPlans p options profile plans → LeastGive (Text plans)
  least_made profile plans g made = (Automatic name profile plans g.0 made, g.1, g.2)

  pub least_refused : (refusal : Refusal) → CountsGive (Refused refusal) → LeastGive (Refused refusal)
  least_refused refusal g = (ProfileRefused name refusal g.0, g.1, g.2)

-- the program that this one is the expansion of
pub record Source (Read : Result Program Refusal → Type 0) (q : Program) : Type 0 where
  pub source : Program
  pub reads : Read (Ok source)
  pub is : q ≡ expand source

module _ (Read : Result Program Refusal → Type 0) where
  pub source_of : (q : Program) → Expands Read (Ok q) → Source Read q
  source_of q h = by h.source h.reads h.is
    where
      by : (o : Result Program Refusal) → Read o → Ok q ≡ expanded o → Source Read q
      by (Ok p) reads is = record { source = p; reads = reads; is = cc is }
      by (Err refusal) reads is = absurd (cc is)

  pub refusal_read : (refusal : Refusal) → Expands Read (Err refusal) → Read (Err refusal)
  refusal_read refusal h = by h.source h.reads h.is
    where
      by : (o : Result Program Refusal) → Read o → Err refusal ≡ expanded o → Read (Err refusal)
      by (Ok p) reads is = absurd (cc is)
      by (Err other) reads is = let e : other ≡ refusal = cc is in subst (λ (x : Refusal). Read (Err x)) e reads

-- what a load gave, where it gave something
pub given : {X E : Type 0} (P : X → Type 0) (r : Result X E) (x : X) → r ≡ Ok x → IfOk r P → P x
given P r x e h = rw e at h

module _ (contents : Contents) (run : RunAsked) (faults one : ℕ) (failed names : FailedNames) where
  abbrev pub ProgramGives : Loaded Program → Type 0
  ProgramGives = GivesLoaded (LoadsProgram contents run.program) (Some run.program) faults one failed names

  pub program_refused : (refusal : Refusal) → ProgramGives (Refused refusal) → LoadsTexts contents run faults one failed names (texts.Refused refusal)
  program_refused refusal g = ProgramRefused refusal (refusal_read (ReadsProgram contents run.program) refusal g.0) g.1 g.2

  pub program_failed : ProgramGives Failed → LoadsTexts contents run faults one failed names (texts.Failed role.Program)
  program_failed g = let same : run.program ≡ g.0 = cc g.1 in ProgramFailed g.2 (g.3 ∙ ap (λ (n : List ℕ). with_failed_name n failed) (sym same))

  module _ (two : ℕ) (more : FailedNames) (q : Program) (g : ProgramGives (Text q)) where
    s : Source (ReadsProgram contents run.program) q
    s = source_of (ReadsProgram contents run.program) q g.0

    abbrev pub InputGives : Loaded (List ℤ) → Type 0
    InputGives = GivesLoaded (Input contents run.input) run.input one two names more

    pub input_refused : (refusal : Refusal) → InputGives (Refused refusal) → LoadsTexts contents run faults two failed more (texts.Refused refusal)
    input_refused refusal h = InputRefused refusal s.source s.reads h.0 (h.1 ∙ g.1) (h.2 ∙ g.2)

    pub input_failed : InputGives Failed → LoadsTexts contents run faults two failed more (texts.Failed role.Input)
    input_failed h =
        let less : faults < two = subst (λ (k : ℕ). k < two) g.1 h.2 in
        InputFailed s.source h.0 s.reads h.1 less (h.3 ∙ ap (with_failed_name h.0) g.2)

    module _ (three : ℕ) (last : FailedNames) (numbers : List ℤ) (h : InputGives (Text numbers)) where
      abbrev pub PlansGive : Loaded (List Plan) → Type 0
      PlansGive = GivesLoaded (Plans contents q run.options run.source) (source_name run.source) two three more last

      pub plans_refused : (refusal : Refusal) → PlansGive (Refused refusal) → LoadsTexts contents run faults three failed last (texts.Refused refusal)
      plans_refused refusal k =
          PlansRefused refusal s.source numbers s.reads h.0 (subst (λ (x : Program). Plans contents x run.options run.source (Err refusal)) s.is k.0) (k.1 ∙ h.1
          ∙ g.1) (k.2 ∙ h.2 ∙ g.2)

      pub plans_failed : (which : Role) → which ≡ plans_role run.source → PlansGive Failed →
          LoadsTexts contents run faults three failed last (texts.Failed which)
      plans_failed which is k =
          let less : faults < three = subst (λ (n : ℕ). n < three) (h.1 ∙ g.1) k.2 in
          subst (λ (r : Role). LoadsTexts contents run faults three failed last (texts.Failed r)) (sym is)
          (PlansFailed s.source numbers k.0 s.reads h.0 k.1 less (k.3 ∙ ap (with_failed_name k.0) (h.2 ∙ g.2)))

      pub all_loaded : (plans : List Plan) → PlansGive (Text plans) → ArePlans q plans →
          LoadsTexts contents run faults three failed last (texts.Run q numbers plans)
      all_loaded plans k fit = LoadedTexts s.source q numbers plans s.is s.reads h.0 k.0 fit (k.1 ∙ h.1 ∙ g.1) (k.2 ∙ h.2 ∙ g.2)
