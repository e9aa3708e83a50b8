-- What is written of a program alone, and of its least plans.
use Rattle.std.specs.Prelude.{◌≡◌, ℕ, List, Option, Result, Ok, Err}
use Rattle.dp_tree.specs.declared.Program.{Program}
use Rattle.dp_calls.specs.Expand.{expand}
use Rattle.dp_plan.specs.declared.Plan.{Plan}
use Rattle.dp_plan_text.specs.WrittenText.{plans_text}
use Rattle.dp_report.specs.SiteText.{site_bytes}
use Rattle.dp_tree_text.specs.TreeText.{tree_bytes}
use Rattle.dp_edge.specs.declared.writing.WriteFail.{WriteFail}
use Rattle.dp_edge.specs.declared.writing.WriteFail.TheVariants.{NoMemory}
use Rattle.dp_profile.specs.declared.Profile.{Profile}
use Rattle.dp_explain.specs.Explanation.{IsExplanation}
use Rattle.dp_words.specs.declared.task.PlanOptions.{PlanOptions}
use Rattle.dp_words.specs.Planning.{Planning}
use Rattle.dp_words.specs.Words.{Asked}
use Rattle.dp_load.specs.Alone.{ReadsLeastPlans, ReadsProgramAlone}
use Rattle.dp_load.specs.Order.{Given}
use Rattle.dp_load.specs.Plans.{MakesPlans}
use Rattle.dp_load.specs.Roles.{Contents, Profiled}
use Rattle.dp_drive.specs.declared.listing.Listing.{Listing}
use Rattle.dp_drive.specs.declared.listing.Listing.TheVariants.{Sites, Tree}
use Rattle.dp_drive.specs.declared.planning.PlansText.{PlansText}
use Rattle.dp_drive.specs.declared.planning.PlansText.TheVariants.{Bare, Explained}
use Rattle.dp_drive.specs.Answer.{BytesFor, status_for}
use Rattle.dp_drive.specs.steps.Carried.{Finishes}

-- the text of an expanded program
abbrev pub listing_text : Listing → Program → List ℕ
listing_text Sites p = site_bytes p
listing_text Tree p = tree_bytes p

-- the bytes list an expanded program's plans, made by this profile at this rate
abbrev pub PlanningText : PlansText → Program → Option Profile → ℕ → List Plan → List ℕ → Type 0
PlanningText Bare p profile rate plans bytes = bytes ≡ plans_text p plans
PlanningText Explained p profile rate plans bytes = IsExplanation p profile rate plans bytes

-- The least plans of an expanded program were made by this profile and listed, or memory was wanting before anything was written.
pub data ListsLeast (text : PlansText) (p : Program) (options : PlanOptions) (profile : Option Profile) (told tells : Option (List ℕ))
    (result : Result ℕ WriteFail) : Type 0 where
  Made : (plans : List Plan) (bytes : List ℕ) → MakesPlans p options profile plans → PlanningText text p profile options.rate plans bytes →
      Finishes 0 bytes told tells result → ListsLeast text p options profile told tells result
  Wanting : result ≡ Err NoMemory → tells ≡ told → ListsLeast text p options profile told tells result

-- Such a text of the program under this name is asked for.
pub record ListsProgram (listing : Listing) (asked : Asked) (name : List ℕ) : Type 0 where
  pub reads : ReadsProgramAlone asked name
  pub status : (texts : Given) → status_for asked texts ≡ 0
  pub bytes : (contents : Contents) (texts : Given) → BytesFor contents asked texts (listing_text listing (expand texts.program))

-- Such a text of least plans is asked for.
pub record ListsPlans (text : PlansText) (asked : Asked) (planning : Planning) : Type 0 where
  pub reads : ReadsLeastPlans asked planning
  pub status : (texts : Given) → status_for asked texts ≡ 0
  pub bytes : (contents : Contents) (texts : Given) (profile : Option Profile) (bytes : List ℕ) →
      Profiled contents (expand texts.program) planning.profile (Ok profile) →
      PlanningText text (expand texts.program) profile planning.options.rate texts.plans bytes → BytesFor contents asked texts bytes
