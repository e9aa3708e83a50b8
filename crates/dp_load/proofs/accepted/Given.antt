-- What is loaded for a run is what a run asks for.
use Rattle.std.proofs.Common.{◌≡◌, refl, sym, ap, ◌∙◌, subst, ℕ, ◌≤◌, Bool, true, false, if◌then◌else◌, nat_lt, nat_le, min, suc, ◌+◌, List, [], ◌∷◌, length, ℤ}
use Rattle.std.proofs.Common.{Option, Some, None, Result, Ok, Err, IfOk, arith}
use Rattle.std.proofs.lemmas.Bool.{leb-true}
use Rattle.dp_room.specs.declared.NoMemory.{NoMemory}
use Rattle.dp_base.specs.declared.Quantity.TheVariants.{InputBytes}
use Rattle.dp_edge.specs.declared.input.InputFail.{InputFail}
use Rattle.dp_edge.specs.declared.input.InputFail.TheVariants.{TooMany}
use Rattle.dp_edge.specs.Input.{number_before, number_written, numbers_at, numbers_of, input_words}
use Rattle.dp_refusal.specs.declared.refusal.Refusal.TheVariants.{Limit}
use Rattle.dp_tree.specs.declared.Program.{Program}
use Rattle.dp_tree.specs.Inlined.{IsInlined}
use Rattle.dp_plan.specs.declared.Plan.{Plan}
use Rattle.dp_plan.specs.GivenPlans.{ArePlans}
use Rattle.dp_plan_text.proofs.ReadFits.{read_fits}
use Rattle.dp_words.specs.Run.{RunAsked}
use Rattle.dp_refusal.specs.declared.refusal.Refusal.{Refusal}
use Rattle.dp_load.specs.declared.texts.Texts.TheVariants as texts
use Rattle.dp_load.specs.Inputs.{or_refused}
use Rattle.dp_load.specs.Roles.{Contents, Input, Unnamed, Named}
use Rattle.dp_load.specs.Plans.{ReadsPlans, TooLong, NotPlans, Broken, Taken}
use Rattle.dp_load.specs.Texts.{FailedNames, LoadsTexts, Loaded as LoadedTexts}
use Rattle.dp_load.specs.declared.load.Loaded.{Loaded}
use Rattle.dp_load.specs.declared.load.Loaded.TheVariants.{Text, Refused, Failed}
use Rattle.dp_load.specs.Loading.{IfText, Loads, LoadsPlans, LoadsProgram, ReadsProgram}
use Rattle.dp_load.proofs.TextsLemmas.{Source, source_of}
use Rattle.dp_load.proofs.accepted.Accepted.{inlined_read}

read_plans : {p : Program} {text : List ℕ} {o : Result (List Plan) Refusal} (inlined : IsInlined p) (plans : List Plan) → ReadsPlans p text o →
    o ≡ Ok plans → ArePlans p plans
read_plans inlined plans (TooLong h) e = absurd (cc e)
read_plans inlined plans (NotPlans line h r) e = absurd (cc e)
read_plans inlined plans (Broken rule site h r) e = absurd (cc e)
read_plans {p = p} {text = text} inlined plans (Taken others h r) e =
    let same : others ≡ plans = cc e in subst (ArePlans p) same (read_fits p inlined text others r)

-- plans that were read fit their regions
loaded_plans_fit : (contents : Contents) (p : Program) (name : List ℕ) → IsInlined p → (x : Loaded (List Plan)) → Loads (LoadsPlans contents p name) x →
    IfText (ArePlans p) x
loaded_plans_fit contents p name inlined (Text plans) h = read_plans inlined plans h.reads refl
loaded_plans_fit contents p name inlined (Refused refusal) h = tt
loaded_plans_fit contents p name inlined Failed h = tt

pub read_plans_fit : (contents : Contents) (p : Program) (name : List ℕ) → IsInlined p → (r : Result (Loaded (List Plan)) NoMemory) →
    IfOk r (Loads (LoadsPlans contents p name)) → IfOk r (IfText (ArePlans p))
read_plans_fit contents p name inlined (Ok x) h = loaded_plans_fit contents p name inlined x h
read_plans_fit contents p name inlined (Err fail) h = tt

-- a number for each word
each_number : (input_words : List (List ℕ)) (place : ℕ) (numbers : List ℤ) (read : Result (List ℤ) InputFail) → numbers_at place input_words ≡ read →
    read ≡ Ok numbers → length numbers ≡ length input_words
each_number [] place numbers read e is = let empty : [] ≡ numbers = cc (e ∙ is) in ap length (sym empty)
each_number (word ∷ input_words) place numbers read e is =
    by (number_written word) (numbers_at (place + 1) input_words) refl (e ∙ is) (λ rest f. each_number input_words (place + 1) rest (Ok rest) f refl)
  where
    by : (n : Option ℤ) (later : Result (List ℤ) InputFail) → numbers_at (place + 1) input_words ≡ later → number_before n place later ≡ Ok numbers →
        ((rest : List ℤ) → numbers_at (place + 1) input_words ≡ Ok rest → length rest ≡ length input_words) → length numbers ≡ suc (length input_words)
    by None later f g next = absurd (cc g)
    by (Some number) (Ok rest) f g next = let same : number ∷ rest ≡ numbers = cc g in ap length (sym same) ∙ ap suc (next rest f)
    by (Some number) (Err fail) f g next = absurd (cc g)

numbers_few : (text : List ℕ) (zs : List ℤ) → numbers_of text ≡ Ok zs → (numbers : List ℤ) → zs ≡ numbers → length numbers ≤ 65536
numbers_few text zs is numbers same = by (nat_le (length (input_words text)) 65536) refl is
  where
    by : (b : Bool) → nat_le (length (input_words text)) 65536 ≡ b →
        (if b then numbers_at 1 (input_words text) else Err (TooMany (min (length (input_words text)) 1000000))) ≡ Ok zs → length numbers ≤ 65536
    by true few e = let count = each_number (input_words text) 1 zs (numbers_at 1 (input_words text)) refl e in
        let small = leb-true (length (input_words text)) 65536 few in let size = ap length (sym same) in omega (arith, count, small, size)
    by false many e = absurd (cc e)

-- the numbers of an input are few
pub few_words : {contents : Contents} {name : Option (List ℕ)} {o : Result (List ℤ) Refusal} (numbers : List ℤ) → Input contents name o → o ≡ Ok numbers →
    length numbers ≤ 65536
few_words numbers Unnamed e = let same : [] ≡ numbers = cc e in let size = ap length (sym same) in omega (arith, size)
few_words numbers (Named name read r) e = by (nat_lt 2097152 (length r.text)) refl (sym r.reads ∙ e)
  where
    few : (t : Result (List ℤ) InputFail) → numbers_of r.text ≡ t → or_refused t ≡ Ok numbers → length numbers ≤ 65536
    few (Ok zs) is same = let one : zs ≡ numbers = cc same in numbers_few r.text zs is numbers one
    few (Err fail) is same = absurd (cc same)

    by : (b : Bool) → nat_lt 2097152 (length r.text) ≡ b → (if b then Err (Limit InputBytes 2097153) else or_refused (numbers_of r.text)) ≡ Ok numbers →
        length numbers ≤ 65536
    by true long same = absurd (cc same)
    by false short same = few (numbers_of r.text) refl same

pub words_given : (contents : Contents) (run : RunAsked) (faults after : ℕ) (failed fails : FailedNames) (q : Program) (numbers : List ℤ) (plans : List Plan) →
    LoadsTexts contents run faults after failed fails (texts.Run q numbers plans) → length numbers ≤ 65536
words_given contents run faults after failed fails q numbers plans (LoadedTexts p x others more is h k l fit e f) = few_words numbers k refl

-- what is run for a program's text is an inlined program
module _ (contents : Contents) (name : List ℕ) (q : Program) (h : LoadsProgram contents name (Ok q)) where
  s : Source (ReadsProgram contents name) q
  s = source_of (ReadsProgram contents name) q h

  pub loaded_inlined : IsInlined q
  loaded_inlined = subst IsInlined (sym s.is) (inlined_read s.reads.text s.source s.reads.reads)
