-- The run of the made program.
use Rattle.std.proofs.Common.{◌≡◌, refl, sym, ◌∙◌, ap, subst, arith, ℕ, zero, suc, ◌+◌, ◌≤◌, false, List, [], ◌++◌, length, ℤ, Option, None, Result, Ok, Err}
use Rattle.std.proofs.Common.{IfOk, OnOk}
use Rattle.std.specs.Result.{IsErr}
use Rattle.dp_tree.specs.declared.Program.{Program}
use Rattle.dp_tree.specs.Inlined.{IsInlined}
use Rattle.dp_calls.specs.Expand.{expand}
use Rattle.dp_edge.specs.Sink.{appended}
use Rattle.dp_edge.specs.declared.writing.WriteFail.{WriteFail}
use Rattle.dp_edge.specs.Writing.{WritesFront}
use Rattle.dp_edge.proofs.FrontLemmas.{appended-append, front_behind, front_more}
use Rattle.dp_report.specs.Generator.{made_text, next_number, words_after}
use Rattle.dp_plan.specs.declared.Plan.{Plan}
use Rattle.dp_run.specs.RunText.{source_run, trace_text, committed_in_all}
use Rattle.dp_words.specs.declared.task.GenWords.{GenWords}
use Rattle.dp_words.specs.Words.{Asks, ToMake}
use Rattle.dp_words.specs.Run.{Least}
use Rattle.dp_words.specs.Made.{MadeWithin}
use Rattle.dp_plan.specs.GivenPlans.{ArePlans}
use Rattle.dp_run.specs.Given.{AreGiven}
use Rattle.dp_refusal.specs.declared.refusal.Refusal.{Refusal}
use Rattle.dp_refusal.specs.Refusal.{refusal_line, refusal_status}
use Rattle.dp_load.specs.Program.{Reads, ReadsAs}
use Rattle.dp_load.specs.Plans.{MakesPlans}
use Rattle.dp_drive.specs.Made.{made_line, made_words}
use Rattle.dp_refusal.specs.Refusal.{exit_status}
use Rattle.dp_load.specs.Roles.{Automatic, Contents, MadeProgram, NotNamed, SomePlans, Unnamed}
use Rattle.dp_drive.specs.Answer.{Done, OfRun}
use Rattle.dp_drive.specs.Answer as answers
use Rattle.dp_drive.specs.Headline.{IsCounted}
use Rattle.dp_load.specs.Texts.{FailedNames}
use Rattle.dp_drive.specs.steps.Carried.{Finishes, Carried}
use Rattle.dp_drive.specs.steps.Carried as carried
use Rattle.dp_load.proofs.accepted.Accepted.{read_checked, inlined_read}
use Rattle.dp_drive.proofs.AnswerLemmas.{finishes_source}
use Rattle.dp_load.specs.Order.{ReadsAll}
use Rattle.dp_load.specs.Last.{Nothing}
use Rattle.dp_load.proofs.OrderLemmas.{all_read, ends_at_program}
use Rattle.dp_load.proofs.TextsLemmas.{Source, source_of, refusal_read}

text_size : length made_text ≡ 319
unfolding made_text
text_size = refl

pub short_made : (text read : List ℕ) → read ≡ text → text ≡ made_text → length read ≤ 65536
short_made text read e f = let size = ap length (e ∙ f) ∙ text_size in omega (arith, size)

so_many_words : (seed size : ℕ) → length (words_after seed size) ≡ size
so_many_words seed zero = refl
so_many_words seed (suc n) = ap suc (so_many_words (next_number seed) n)

pub few_words : (made : GenWords) (numbers : List ℤ) → numbers ≡ made_words made → MadeWithin made → length numbers ≤ 65536
few_words made numbers e within = let size = ap length e ∙ so_many_words made.seed made.size in let few = within.few_words in omega (arith, size, few)

-- a text behind a line that was written
pub finishes_behind : (line text : List ℕ) (status : ℕ) (told mid tells : Option (List ℕ)) (result : Result ℕ WriteFail) → mid ≡ appended line told →
    Finishes status text mid tells result →
    Finishes status (line ++ text) told tells result
finishes_behind line text status told mid tells (Ok answered) m h = (h.0, h.1 ∙ ap (appended text) m ∙ appended-append line text told)
finishes_behind line text status told mid tells (Err fail) m h = front_behind (line ++ text) line text told mid tells refl m h

-- .. and where the line wasn't written as a whole
pub finishes_stopped : (line text : List ℕ) (status : ℕ) (told tells : Option (List ℕ)) (result : Result ℕ WriteFail) → IsErr result →
    WritesFront line told tells → Finishes status (line ++ text) told tells result
finishes_stopped line text status told tells (Ok answered) h w = absurd (cc)
finishes_stopped line text status told tells (Err fail) h w = front_more line text told tells w

-- what stopped says nothing of the tally
pub stopped_counts : (result : Result ℕ WriteFail) (P : Type 0) → IsErr result → OnOk result P
stopped_counts (Ok answered) P h = absurd (cc)
stopped_counts (Err fail) P h = tt

-- what the made text was read as
pub read_made : (slice text : List ℕ) (o read : Result Program Refusal) → slice ≡ text → text ≡ made_text → o ≡ read → ReadsAs slice o → ReadsAs made_text read
read_made slice text o read e f is h = subst (λ (t : List ℕ). ReadsAs t read) (e ∙ f) (subst (λ (x : Result Program Refusal). ReadsAs slice x) is h)

-- the texts of its run
made_texts : (contents : Contents) (made : GenWords) (q : Program) (plans : List Plan) (s : Source (Reads made_text) q) → MakesPlans q made.options None plans →
    ReadsAll contents (ToMake made) (Ok ((((s.source, []), []), plans), Nothing))
made_texts contents made q plans s plans_made =
    all_read contents (ToMake made) s.source (MadeProgram (Ok s.source) s.reads) [] Unnamed refl plans
    (SomePlans (Least None) made.options (Ok plans)
    (Automatic None None plans NotNamed (subst (λ (x : Program). MakesPlans x made.options None plans) s.is plans_made))) refl

module _ (q : Program) (h : ReadsAs made_text (Ok q)) where
  s : Source (Reads made_text) q
  s = source_of (Reads made_text) q h

  pub read_inlined : IsInlined q
  read_inlined = subst IsInlined (sym s.is) (inlined_read made_text s.source s.reads)

  pub read_given : (plans : List Plan) → ArePlans q plans → AreGiven q plans
  read_given plans fit = record { inlined = read_inlined; plans_are = fit }

module _ (words : List (List ℕ)) (contents : Contents) (made : GenWords) (asks : Asks words (ToMake made)) where
  module _ (faults : ℕ) (failed : FailedNames) (told tells : Option (List ℕ)) (result : Result ℕ WriteFail) where
    pub carry_refused : (refusal : Refusal) → ReadsAs made_text (Err refusal) → Finishes (refusal_status refusal) (refusal_line refusal) told tells result →
        Carried words contents faults faults failed failed told tells result
    carry_refused refusal read finishes =
        carried.OfAnswer _ _
        (answers.Refused (ToMake made) refusal asks (ends_at_program contents (ToMake made) refusal
        (MadeProgram (Err refusal) (refusal_read (Reads made_text) refusal read)))) refl refl finishes

    pub carry_run : (q : Program) (plans : List Plan) (numbers : List ℤ) → numbers ≡ made_words made → ReadsAs made_text (Ok q) →
        MakesPlans q made.options None plans →
        Finishes (exit_status (source_run q numbers made.fuel).end) (made_line made ++ trace_text q plans (source_run q numbers made.fuel)
        false) told tells result →
        Carried words contents faults faults failed failed told tells result
    carry_run q plans numbers e read plans_made finishes =
        let s = source_of (Reads made_text) q read in
        let here = subst (λ (zs : List ℤ). Finishes (exit_status (source_run q zs made.fuel).end)
        (made_line made ++ trace_text q plans (source_run q zs made.fuel) false) told tells result) e finishes in
        carried.OfAnswer _ _ (Done (ToMake made) ((((s.source, []), []), plans), Nothing) _ asks (made_texts contents made q plans s plans_made) refl) refl refl
        (finishes_source s.source q s.is (read_checked made_text s.source s.reads) (inlined_read made_text s.source s.reads) plans (made_words made) made.fuel
        false (made_line made) told tells result here)

  -- where the run ended, the tally grew by what was committed of it
  pub run_counts : (q : Program) (plans : List Plan) (numbers : List ℤ) (before now : ℕ) (result : Result ℕ WriteFail) → numbers ≡ made_words made →
      ReadsAs made_text (Ok q) → MakesPlans q made.options None plans →
      OnOk result (now ≡ before + committed_in_all q plans (source_run q numbers made.fuel)) → IfOk result (IsCounted words contents before now)
  run_counts q plans numbers before now (Ok status) e read plans_made h =
      let s = source_of (Reads made_text) q read in
      λ other spent asked some end. (
        committed_in_all (expand s.source) plans (source_run (expand s.source) (made_words made) made.fuel),
        OfRun (ToMake made) ((((s.source, []), []), plans), Nothing) made.fuel asks (made_texts contents made q plans s plans_made) refl,
        h ∙ ap (λ (zs : List ℤ). before + committed_in_all q plans (source_run q zs made.fuel)) e
            ∙ ap (λ (y : Program). before + committed_in_all y plans (source_run y (made_words made) made.fuel)) s.is,
      )
  run_counts q plans numbers before now (Err fail) e read plans_made h = tt
