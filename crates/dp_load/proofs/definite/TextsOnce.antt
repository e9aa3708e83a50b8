-- What the texts give that a shelf holds, where it tells what it holds, is one thing only.
use Rattle.std.proofs.Common.{◌≡◌, refl, sym, ap, ◌∙◌, subst, ℕ, List, [], ℤ, Option, Some, None, Result, Ok, Err}
use Rattle.dp_tree.specs.declared.Program.{Program}
use Rattle.dp_calls.specs.Expand.{expand}
use Rattle.dp_refusal.specs.declared.refusal.Refusal.{Refusal}
use Rattle.dp_words.specs.declared.task.PlanOptions.{PlanOptions}
use Rattle.dp_words.specs.Run as source
use Rattle.dp_words.specs.Run.{Source, Least}
use Rattle.dp_plan.specs.declared.Plan.{Plan}
use Rattle.dp_profile.specs.declared.Profile.{Profile}
use Rattle.dp_cut.proofs.PlansOnce.{automatic_once}
use Rattle.dp_load.specs.Plans.{MakesPlans, ReadsPlans}
use Rattle.dp_load.specs.Profiles.{ReadsProfile}
use Rattle.dp_load.specs.Program.{Reads}
use Rattle.dp_load.specs.Inputs.{input_of}
use Rattle.dp_load.specs.Roles.{some_read, ReadsInput, Input, Unnamed, Named, Profiled, NotNamed, NamedProfile, Plans, Automatic, ProfileRefused, Planned}
use Rattle.dp_load.specs.Roles.{PlansOf, NoPlans, SomePlans, ProgramOf, MadeProgram, NamedProgram, program_in}
use Rattle.dp_save.specs.declared.Checkpoint.{Checkpoint as Point}
use Rattle.dp_load.specs.Last.{LastText, Checkpoint, Last, LastCheckpoint, LastLog, LastOf, Log, NoLast, Nothing, ReadsCheckpoint, ReadsLog, logged, saved_at}
use Rattle.dp_load.specs.Lists.{Inputs, ListRefused, Listed, ReadsList, ReadsListed, Unlisted, in_list}
use Rattle.dp_load.specs.Order.{ReadsAll, WithInputs}
use Rattle.dp_load.specs.Then.{Both, EachInTurn}
use Rattle.dp_load.proofs.definite.ThenOnce.{Once, then_once}
use Rattle.dp_report.specs.Generator.{made_text}
use Rattle.dp_words.specs.Words.{Asked}
use Rattle.dp_load.proofs.accepted.Accepted.{few_regions_read, inlined_read}
use Rattle.dp_load.proofs.definite.ReadsOnce.{reads_once}
use Rattle.dp_load.proofs.definite.PlansOnce.{plans_once}
use Rattle.dp_load.proofs.definite.ProfilesOnce.{profiles_once}
use Rattle.dp_load.proofs.definite.ListsOnce.{in_turn_once, lists_once}
use Rattle.dp_load.proofs.definite.LastOnce.{checkpoints_once, logs_once}

module _ (held : List ℕ → Option (List ℕ)) where
  one_text : {name other text more : List ℕ} → name ≡ other → held name ≡ Some text → held other ≡ Some more → text ≡ more
  one_text {text = text} {more = more} e h k = let same : Some text ≡ Some more = sym h ∙ ap held e ∙ k in cc same

  pub read_once : {name other text more : List ℕ} {a b : Result Program Refusal} → name ≡ other → held name ≡ Some text → held other ≡ Some more →
      Reads text a → Reads more b → a ≡ b
  read_once {text = text} {b = b} e h k r s = reads_once text r (subst (λ (x : List ℕ). Reads x b) (sym (one_text e h k)) s)

  -- the input of a run
  from_unnamed : {o : Option (List ℕ)} {b : Result (List ℤ) Refusal} → o ≡ None → Input (Some held) o b → Ok [] ≡ b
  from_unnamed e Unnamed = refl
  from_unnamed e (Named name read r) = absurd (cc e)

  from_named : {o : Option (List ℕ)} {a b : Result (List ℤ) Refusal} (name : List ℕ) → o ≡ Some name → ReadsInput (Some held) name a →
      Input (Some held) o b → a ≡ b
  from_named name e r Unnamed = absurd (cc e)
  from_named name e r (Named other read s) = let same : name ≡ other = cc e in r.reads ∙ ap input_of (one_text same r.held s.held) ∙ sym s.reads

  pub input_by : {o p : Option (List ℕ)} {a b : Result (List ℤ) Refusal} → o ≡ p → Input (Some held) o a → Input (Some held) p b → a ≡ b
  input_by e Unnamed k = from_unnamed (sym e) k
  input_by e (Named name read r) k = from_named name (sym e) r k

  -- the plans of a run
  module _ (program : Program) (own : List ℕ) (reads : Reads own (Ok program)) (options : PlanOptions) where
    abbrev p : Program
    p = expand program

    from_no_profile : {o : Option (List ℕ)} {b : Result (Option Profile) Refusal} → None ≡ o → Profiled (Some held) p o b → Ok None ≡ b
    from_no_profile e NotNamed = refl
    from_no_profile e (NamedProfile name text read h r) = absurd (cc e)

    from_profile : {o : Option (List ℕ)} {b : Result (Option Profile) Refusal} (name text : List ℕ) (a : Result Profile Refusal) → Some name ≡ o →
        held name ≡ Some text → ReadsProfile p text a → Profiled (Some held) p o b → some_read a ≡ b
    from_profile name text a e h r NotNamed = absurd (cc e)
    from_profile name text a e h r (NamedProfile other more c k s) =
        let same : name ≡ other = cc e in
        let here : ReadsProfile p text c = subst (λ (x : List ℕ). ReadsProfile p x c) (sym (one_text same h k)) s in
        ap some_read (profiles_once p (inlined_read own program reads) text r here)

    profiled_by : {o q : Option (List ℕ)} {a b : Result (Option Profile) Refusal} → o ≡ q → Profiled (Some held) p o a → Profiled (Some held) p q b → a ≡ b
    profiled_by e NotNamed k = from_no_profile e k
    profiled_by e (NamedProfile name text a h r) k = from_profile name text a e h r k

    from_automatic : {plans_of : Source} {b : Result (List Plan) Refusal} (name : Option (List ℕ)) (profile : Option Profile) (plans : List Plan) →
        Least name ≡ plans_of → Profiled (Some held) p name (Ok profile) → MakesPlans p options profile plans →
        Plans (Some held) p options plans_of b → Ok plans ≡ b
    from_automatic name profile plans e found made (Automatic other shown others k same) =
        let one : Ok profile ≡ Ok shown = profiled_by (cc e) found k in
        let counts : profile ≡ shown = cc one in
        ap Ok (automatic_once p shown options.rate options.stages options.workers plans others
        (subst (λ (x : Option Profile). MakesPlans p options x plans) counts made) same)
    from_automatic name profile plans e found made (ProfileRefused other refusal k) =
        let clash : Ok profile ≡ Err refusal = profiled_by (cc e) found k in
        absurd (cc clash)
    from_automatic name profile plans e found made (Planned other text read h r) = absurd (cc e)

    from_refused : {plans_of : Source} {b : Result (List Plan) Refusal} (name : Option (List ℕ)) (refusal : Refusal) → Least name ≡ plans_of →
        Profiled (Some held) p name (Err refusal) → Plans (Some held) p options plans_of b → Err refusal ≡ b
    from_refused name refusal e found (Automatic other shown others k same) =
        let clash : Err refusal ≡ Ok shown = profiled_by (cc e) found k in
        absurd (cc clash)
    from_refused name refusal e found (ProfileRefused other another k) =
        let one : Err refusal ≡ Err another = profiled_by (cc e) found k in
        let same : refusal ≡ another = cc one in
        ap (λ (r : Refusal). Err r) same
    from_refused name refusal e found (Planned other text read h r) = absurd (cc e)

    from_planned : {plans_of : Source} {a b : Result (List Plan) Refusal} (name text : List ℕ) → source.Named name ≡ plans_of → held name ≡ Some text →
        ReadsPlans p text a → Plans (Some held) p options plans_of b → a ≡ b
    from_planned name text e h r (Automatic other shown plans k made) = absurd (cc e)
    from_planned name text e h r (ProfileRefused other refusal k) = absurd (cc e)
    from_planned {b = b} name text e h r (Planned other more read k s) =
        let same : name ≡ other = cc e in
        plans_once p (few_regions_read own program reads) text r (subst (λ (x : List ℕ). ReadsPlans p x b) (sym (one_text same h k)) s)

    pub plans_by : {one other : Source} {a b : Result (List Plan) Refusal} → one ≡ other → Plans (Some held) p options one a →
        Plans (Some held) p options other b → a ≡ b
    plans_by e (Automatic name profile plans found made) k = from_automatic name profile plans e found made k
    plans_by e (ProfileRefused name refusal found) k = from_refused name refusal e found k
    plans_by e (Planned name text read h r) k = from_planned name text e h r k

  -- one program
  from_made : {o : Option (List ℕ)} {a b : Result Program Refusal} → None ≡ o → Reads made_text a → ProgramOf (Some held) o b → a ≡ b
  from_made e r (MadeProgram read s) = reads_once made_text r s
  from_made e r (NamedProgram name text read h s) = absurd (cc e)

  from_program : {o : Option (List ℕ)} {a b : Result Program Refusal} (name text : List ℕ) → Some name ≡ o → held name ≡ Some text → Reads text a →
      ProgramOf (Some held) o b → a ≡ b
  from_program name text e h r (MadeProgram read s) = absurd (cc e)
  from_program name text e h r (NamedProgram other more read k s) = let same : name ≡ other = cc e in read_once same h k r s

  program_by : {o q : Option (List ℕ)} {a b : Result Program Refusal} → o ≡ q → ProgramOf (Some held) o a → ProgramOf (Some held) q b → a ≡ b
  program_by e (MadeProgram read r) k = from_made e r k
  program_by e (NamedProgram name text read h r) k = from_program name text e h r k

  -- the plans, if there are to be any
  module _ (p : Program) (own : List ℕ) (reads : Reads own (Ok p)) where
    from_none : {q : Option (Source × PlanOptions)} {b : Result (List Plan) Refusal} → None ≡ q → PlansOf (Some held) (expand p) q b → Ok [] ≡ b
    from_none e NoPlans = refl
    from_none e (SomePlans source options read h) = absurd (cc e)

    from_some : {q : Option (Source × PlanOptions)} {a b : Result (List Plan) Refusal} (source : Source) (options : PlanOptions) → Some (source, options) ≡ q →
        Plans (Some held) (expand p) options source a → PlansOf (Some held) (expand p) q b → a ≡ b
    from_some source options e h NoPlans = absurd (cc e)
    from_some source options e h (SomePlans other more read k) =
        let same : (source, options) ≡ (other, more) = cc e in
        let sources : source ≡ other = ap (λ (z : Source × PlanOptions). z.0) same in
        let ways : options ≡ more = ap (λ (z : Source × PlanOptions). z.1) same in
        plans_by p own reads options sources h (subst (λ (z : PlanOptions). Plans (Some held) (expand p) z other read) (sym ways) k)

    plans_of : {o q : Option (Source × PlanOptions)} {a b : Result (List Plan) Refusal} → o ≡ q → PlansOf (Some held) (expand p) o a →
        PlansOf (Some held) (expand p) q b → a ≡ b
    plans_of e NoPlans k = from_none e k
    plans_of e (SomePlans source options read h) k = from_some source options e h k

  each_plans_once : {o : Option (List ℕ)} {x : Result Program Refusal} {wish : Option (Source × PlanOptions)} {a b : Result (List Plan) Refusal} (p : Program) →
      ProgramOf (Some held) o x → x ≡ Ok p →
      PlansOf (Some held) (expand p) wish a → PlansOf (Some held) (expand p) wish b → a ≡ b
  each_plans_once p (MadeProgram read r) e h k = plans_of p made_text (subst (Reads made_text) e r) refl h k
  each_plans_once p (NamedProgram name text read held_text r) e h k = plans_of p text (subst (Reads text) e r) refl h k

  -- the inputs of a list
  listed_once : (number : ℕ) (name : List ℕ) → Once (ReadsListed (Some held) number name)
  listed_once number name a b r s =
      let same : r.alone ≡ s.alone = r.reads.reads ∙ ap input_of (one_text refl r.reads.held s.reads.held) ∙ sym s.reads.reads in
      r.is ∙ ap (in_list number) same ∙ sym s.is

  from_unlisted : {o : Option (List ℕ)} {b : Result (List (List ℤ)) Refusal} → None ≡ o → Inputs (Some held) o b → Ok [] ≡ b
  from_unlisted e Unlisted = refl
  from_unlisted e (ListRefused name text refusal h r) = absurd (cc e)
  from_unlisted e (Listed name text names read h r k) = absurd (cc e)

  names_by : {name other text more : List ℕ} {a b : Result (List (List ℕ)) Refusal} → name ≡ other → held name ≡ Some text → held other ≡ Some more →
      ReadsList text a → ReadsList more b → a ≡ b
  names_by {text = text} {b = b} e h k r s = lists_once text r (subst (λ (x : List ℕ). ReadsList x b) (sym (one_text e h k)) s)

  from_refused_list : {o : Option (List ℕ)} {b : Result (List (List ℤ)) Refusal} (name text : List ℕ) (refusal : Refusal) → Some name ≡ o →
      held name ≡ Some text → ReadsList text (Err refusal) → Inputs (Some held) o b → Err refusal ≡ b
  from_refused_list name text refusal e h r Unlisted = absurd (cc e)
  from_refused_list name text refusal e h r (ListRefused other more another k s) =
      let same : name ≡ other = cc e in
      let one : Err refusal ≡ Err another = names_by same h k r s in
      let refusals : refusal ≡ another = cc one in
      ap (λ (x : Refusal). Err x) refusals
  from_refused_list name text refusal e h r (Listed other more names read k s l) =
      let same : name ≡ other = cc e in
      let clash : Err refusal ≡ Ok names = names_by same h k r s in
      absurd (cc clash)

  from_listed : {o : Option (List ℕ)} {a b : Result (List (List ℤ)) Refusal} (name text : List ℕ) (names : List (List ℕ)) → Some name ≡ o →
      held name ≡ Some text → ReadsList text (Ok names) → EachInTurn (ReadsListed (Some held)) 1 names a → Inputs (Some held) o b → a ≡ b
  from_listed name text names e h r l Unlisted = absurd (cc e)
  from_listed name text names e h r l (ListRefused other more refusal k s) =
      let same : name ≡ other = cc e in
      let clash : Ok names ≡ Err refusal = names_by same h k r s in
      absurd (cc clash)
  from_listed name text names e h r l (Listed other more others read k s m) =
      let same : name ≡ other = cc e in
      let one : Ok names ≡ Ok others = names_by same h k r s in
      let lists : names ≡ others = cc one in
      in_turn_once listed_once l read (subst (λ (ns : List (List ℕ)). EachInTurn (ReadsListed (Some held)) 1 ns read) (sym lists) m)

  inputs_by : {o q : Option (List ℕ)} {a b : Result (List (List ℤ)) Refusal} → o ≡ q → Inputs (Some held) o a → Inputs (Some held) q b → a ≡ b
  inputs_by e Unlisted k = from_unlisted e k
  inputs_by e (ListRefused name text refusal h r) k = from_refused_list name text refusal e h r k
  inputs_by e (Listed name text names read h r l) k = from_listed name text names e h r l k

  -- what stands behind the plans
  module _ (p : Program) where
    from_nothing : {o : Option Last} {b : Result LastText Refusal} → None ≡ o → LastOf (Some held) p o b → Ok Nothing ≡ b
    from_nothing e NoLast = refl
    from_nothing e (LastLog name text read h r) = absurd (cc e)
    from_nothing e (LastCheckpoint name text read h r) = absurd (cc e)

    from_log : {o : Option Last} {b : Result LastText Refusal} (name text : List ℕ) (a : Result (List ℕ) Refusal) → Some (Log name) ≡ o →
        held name ≡ Some text → ReadsLog text a → LastOf (Some held) p o b → logged a ≡ b
    from_log name text a e h r NoLast = absurd (cc e)
    from_log name text a e h r (LastLog other more read k s) =
        let same : name ≡ other = cc e in
        ap logged (logs_once text r (subst (λ (x : List ℕ). ReadsLog x read) (sym (one_text same h k)) s))
    from_log name text a e h r (LastCheckpoint other more read k s) = absurd (cc e)

    from_saved : {o : Option Last} {b : Result LastText Refusal} (name text : List ℕ) (a : Result Point Refusal) → Some (Checkpoint name) ≡ o →
        held name ≡ Some text → ReadsCheckpoint p text a → LastOf (Some held) p o b → saved_at a ≡ b
    from_saved name text a e h r NoLast = absurd (cc e)
    from_saved name text a e h r (LastLog other more read k s) = absurd (cc e)
    from_saved name text a e h r (LastCheckpoint other more read k s) =
        let same : name ≡ other = cc e in
        ap saved_at (checkpoints_once p text r (subst (λ (x : List ℕ). ReadsCheckpoint p x read) (sym (one_text same h k)) s))

    last_by : {o q : Option Last} {a b : Result LastText Refusal} → o ≡ q → LastOf (Some held) p o a → LastOf (Some held) p q b → a ≡ b
    last_by e NoLast k = from_nothing e k
    last_by e (LastLog name text read h r) k = from_log name text read e h r k
    last_by e (LastCheckpoint name text read h r) k = from_saved name text read e h r k

  program_in_inputs : (asked : Asked) (read : (Program × List ℤ) × List (List ℤ)) → WithInputs (Some held) asked (Ok read) →
      ProgramOf (Some held) (program_in asked) (Ok read.0.0)
  program_in_inputs asked read (Both x y (Both p numbers h i) k) = h

  -- the profile of least plans
  counts_of : {o : Option (List ℕ)} {x : Result Program Refusal} {name : Option (List ℕ)} {a b : Result (Option Profile) Refusal} (options : PlanOptions)
      (p : Program) → ProgramOf (Some held) o x → x ≡ Ok p →
      Profiled (Some held) (expand p) name a → Profiled (Some held) (expand p) name b → a ≡ b
  counts_of options p (MadeProgram read r) e h k = profiled_by p made_text (subst (Reads made_text) e r) options refl h k
  counts_of options p (NamedProgram name text read held_text r) e h k = profiled_by p text (subst (Reads text) e r) options refl h k

  pub counts_once : (asked : Asked) (options : PlanOptions) (read : (((Program × List ℤ) × List (List ℤ)) × List Plan) × LastText) (name : Option (List ℕ))
      (one other : Option Profile) → ReadsAll (Some held) asked (Ok read) →
      Profiled (Some held) (expand read.0.0.0.0) name (Ok one) → Profiled (Some held) (expand read.0.0.0.0) name (Ok other) → one ≡ other
  counts_once asked options read name one other (Both x y (Both z w h i) k) m n =
      let same : Ok one ≡ Ok other = counts_of options z.0.0 (program_in_inputs asked z h) refl m n in
      cc same

  -- all of them
  pub all_once : (asked : Asked) → Once (ReadsAll (Some held) asked)
  all_once asked =
      let program : Once (ProgramOf (Some held) (program_in asked)) = λ a b h k. program_by refl h k in
      let input = then_once program (λ p h a b i j. input_by refl i j) in
      let inputs = then_once input (λ read h a b i j. inputs_by refl i j) in
      let plans = then_once inputs (λ read h a b i j. each_plans_once read.0.0 (program_in_inputs asked read h) refl i j) in
      then_once plans (λ read h a b i j. last_by (expand read.0.0.0) refl i j)
