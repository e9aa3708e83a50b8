-- From the texts of a program and of its least plans to the headline.
use Rattle.std.proofs.Common.{refl, sym, ap, ◌∙◌, subst, ℕ, ℤ, List, [], Option, Result, Ok, Err, Some}
use Rattle.dp_tree.specs.declared.Program.{Program}
use Rattle.dp_calls.specs.Expand.{expand}
use Rattle.dp_plan.specs.declared.Plan.{Plan}
use Rattle.dp_profile.specs.declared.Profile.{Profile}
use Rattle.dp_edge.specs.declared.writing.WriteFail.{WriteFail}
use Rattle.dp_refusal.specs.declared.refusal.Refusal.{Refusal}
use Rattle.dp_refusal.specs.declared.role.Role.TheVariants as role
use Rattle.dp_refusal.specs.Refusal.{failed_read_line, refusal_line, refusal_status}
use Rattle.dp_words.specs.Planning.{Planning}
use Rattle.dp_words.specs.Run.{Least}
use Rattle.dp_words.specs.Words.{Asked, Asks, ToExplain, ToList, ToPlan, ToTree}
use Rattle.dp_load.specs.declared.load.Loaded.{Loaded}
use Rattle.dp_load.specs.declared.load.Loaded.TheVariants.{Text, Refused, Failed}
use Rattle.dp_load.specs.Last.{LastText, Nothing}
use Rattle.dp_load.specs.Loading.{GivesLoaded, LoadsProgram, ReadsProgram}
use Rattle.dp_load.specs.Order.{given_by}
use Rattle.dp_load.specs.Roles.{Contents, Plans, Profiled}
use Rattle.dp_load.specs.Texts.{FailedNames}
use Rattle.dp_load.proofs.AloneLemmas.{least_inputs, least_read, least_refused, program_alone}
use Rattle.dp_load.proofs.TextsLemmas.{least_made, source_of}
use Rattle.dp_load.proofs.TextsLemmas.{least_refused as least_refused_by}
use Rattle.dp_drive.specs.declared.listing.Listing.{Listing}
use Rattle.dp_drive.specs.declared.listing.Listing.TheVariants.{Sites, Tree}
use Rattle.dp_drive.specs.declared.planning.PlansText.{PlansText}
use Rattle.dp_drive.specs.declared.planning.PlansText.TheVariants.{Bare, Explained}
use Rattle.dp_drive.specs.Answer.{Done, OfPlans}
use Rattle.dp_drive.specs.Answer as answers
use Rattle.dp_drive.specs.steps.Carried.{Carried, Finishes}
use Rattle.dp_drive.specs.steps.Carried as carried
use Rattle.dp_drive.specs.steps.Listed.{ListsLeast, ListsPlans, ListsProgram, Made, PlanningText, Wanting, listing_text}
use Rattle.dp_drive.proofs.AnswerLemmas.{finishes_as}

-- ---- what is asked for

pub lists_sites : (name : List ℕ) → ListsProgram Sites (ToList name) name
lists_sites name = record {
  reads = record { program = refl; input = refl; unlisted = refl; plans = refl; alone = refl };
  status = λ texts. refl;
  bytes = λ contents texts. refl;
}

pub lists_tree : (name : List ℕ) → ListsProgram Tree (ToTree name) name
lists_tree name = record {
  reads = record { program = refl; input = refl; unlisted = refl; plans = refl; alone = refl };
  status = λ texts. refl;
  bytes = λ contents texts. refl;
}

pub lists_plans : (planning : Planning) → ListsPlans Bare (ToPlan planning) planning
lists_plans planning =
    record {
      reads = record { program = refl; input = refl; unlisted = refl; plans = refl; alone = refl };
      status = λ texts. refl;
      bytes = λ contents texts profile bytes counts text. text;
    }

pub lists_explained : (planning : Planning) → ListsPlans Explained (ToExplain planning) planning
lists_explained planning =
    record {
      reads = record { program = refl; input = refl; unlisted = refl; plans = refl; alone = refl };
      status = λ texts. refl;
      bytes = λ contents texts profile bytes counts text. record { profile = profile; counts = counts; text = text };
    }

-- ---- what is answered

abbrev Read : Type 0
Read = (((Program × List ℤ) × List (List ℤ)) × List Plan) × LastText

module _ (words : List (List ℕ)) (contents : Contents) (faults after : ℕ) (failed fails : FailedNames) (told tells : Option (List ℕ)) (asked : Asked)
    (asks : Asks words asked) where
  pub carry_listing : (listing : Listing) (name : List ℕ) (q : Program) (result : Result ℕ WriteFail) → ListsProgram listing asked name →
      GivesLoaded (LoadsProgram contents name) (Some name) faults after failed fails (Text q) → Finishes 0 (listing_text listing q) told tells result →
      Carried words contents faults after failed fails told tells result
  carry_listing listing name q result of g finishes =
      let s = source_of (ReadsProgram contents name) q g.0 in
      let read : Read = ((((s.source, []), []), []), Nothing) in
      carried.OfAnswer _ _ (Done asked ((((s.source, []), []), []), Nothing) (listing_text listing (expand s.source)) asks
      (program_alone contents asked name of.reads s.source s.reads) (of.bytes contents (given_by read))) g.1 g.2
      (finishes_as 0 _ (listing_text listing q) _ told tells result (sym (of.status (given_by read))) (ap (listing_text listing) s.is) finishes)

  module _ (text : PlansText) (planning : Planning) (of : ListsPlans text asked planning) (q : Program)
      (read : LoadsProgram contents planning.program (Ok q)) where
    abbrev LeastOf : Program → Result (List Plan) Refusal → Type 0
    LeastOf x made = Plans contents x planning.options (Least planning.profile) made

    abbrev LeastGives : Loaded (List Plan) → Type 0
    LeastGives = GivesLoaded (LeastOf q) planning.profile faults after failed fails

    abbrev CountsGive : Loaded (Option Profile) → Type 0
    CountsGive = GivesLoaded (Profiled contents q planning.profile) planning.profile faults after failed fails

    pub carry_plans : (profile : Option Profile) (result : Result ℕ WriteFail) → CountsGive (Text profile) →
        ListsLeast text q planning.options profile told tells result → Carried words contents faults after failed fails told tells result
    carry_plans profile result g (Made plans bytes made written finishes) =
        let s = source_of (ReadsProgram contents planning.program) q read in
        let all : Read = ((((s.source, []), []), plans), Nothing) in
        let least : LeastGives (Text plans) = least_made _ _ _ _ _ _ _ _ profile plans g made in
        carried.OfAnswer _ _
        (Done asked ((((s.source, []), []), plans), Nothing) bytes asks (least_read contents asked planning of.reads s.source s.reads plans
        (subst (λ (x : Program). LeastOf x (Ok plans)) s.is least.0))
        (of.bytes contents (given_by all) profile bytes (subst (λ (x : Program). Profiled contents x planning.profile (Ok profile)) s.is g.0)
        (subst (λ (x : Program). PlanningText text x profile planning.options.rate plans bytes) s.is written))) g.1 g.2
        (finishes_as 0 _ bytes bytes told tells result (sym (of.status (given_by all))) refl finishes)
    carry_plans profile result g (Wanting e f) = carried.Starved e g.1 g.2 f

    pub carry_least_refused : (refusal : Refusal) (result : Result ℕ WriteFail) → CountsGive (Refused refusal) →
        Finishes (refusal_status refusal) (refusal_line refusal) told tells result →
        Carried words contents faults after failed fails told tells result
    carry_least_refused refusal result counts finishes =
        let s = source_of (ReadsProgram contents planning.program) q read in
        let g : LeastGives (Refused refusal) = least_refused_by _ _ _ _ _ _ _ _ refusal counts in
        carried.OfAnswer _ _ (answers.Refused asked refusal asks (least_refused contents asked planning of.reads s.source s.reads refusal
        (subst (λ (x : Program). LeastOf x (Err refusal)) s.is g.0))) g.1 g.2 finishes

    pub carry_least_failed : (result : Result ℕ WriteFail) → LeastGives Failed → Finishes 5 (failed_read_line role.Profile) told tells result →
        Carried words contents faults after failed fails told tells result
    carry_least_failed result g finishes =
        let s = source_of (ReadsProgram contents planning.program) q read in
        carried.OfFailedRead _ _ (OfPlans asked ((s.source, []), []) (Least planning.profile) planning.options g.0 asks
        (least_inputs contents asked planning of.reads s.source s.reads) of.reads.plans g.1) g.2 g.3 finishes
