-- The laws of epochs that some iterations begin in any case, and of the report of a run that is made in several pieces.
use Rattle.std.specs.Prelude.{◌≡◌, ℕ, ◌+◌, ◌-◌, ◌<◌, Bool, true, List, ℤ, Some, is_some, slice_get}
use Rattle.dp_tree.specs.declared.Program.{Program}
use Rattle.dp_tree.specs.Step.{Config}
use Rattle.dp_tree.specs.Trace.{Run, run_of}
use Rattle.dp_tree.specs.InMain.{StandsInMain}
use Rattle.dp_tree.specs.Iteration.{start}
use Rattle.dp_tree.specs.GoesOn.{GoesOnAs}
use Rattle.dp_plan.specs.declared.Plan.{Plan}
use Rattle.dp_semantics.specs.Recovery.{epoch_with, is_recovered_with}
use Rattle.dp_semantics.specs.Cause.{cause_with}
use Rattle.dp_semantics.specs.Reported.{report_first_with, region_report_with, gone_on}
use Rattle.dp_semantics.specs.Verdict.{Judged}
use Rattle.dp_semantics.specs.Shift.{from_there}

-- An iteration that has to begin an epoch does.
abbrev pub BeginsThere : Program → Plan → Type 0
BeginsThere p plan = (begins : ℕ → Bool) (run : Run) (m : ℕ) → begins m ≡ true → epoch_with begins p plan run m ≡ m

-- Each iteration that starts is judged rightly in its own epoch, whichever iterations begin one in any case.
abbrev pub JudgesResumed : Program → Plan → Type 0
JudgesResumed p plan = (begins : ℕ → Bool) (input : List ℤ) (fuel : ℕ) (c : Config) → StandsInMain p c → (i k : ℕ) →
    start (run_of p input fuel c) plan.region i ≡ Some k →
    Judged p plan input (run_of p input fuel c) (epoch_with begins p plan (run_of p input fuel c) i) i k

-- the first n iterations of a run have the same epochs, causes and report as those of the other
pub record SameUntil (begins others : ℕ → Bool) (p : Program) (plan : Plan) (run other : Run) (n : ℕ) : Type 0 where
  pub epochs : (i : ℕ) → i < n → epoch_with begins p plan run i ≡ epoch_with others p plan other i
  pub again : (i : ℕ) → i < n → is_recovered_with begins p plan run i ≡ is_recovered_with others p plan other i
  pub cause : (i : ℕ) → i < n → cause_with begins p plan run i ≡ cause_with others p plan other i
  pub report : report_first_with begins p plan run n ≡ report_first_with others p plan other n

-- Where an epoch has to begin later changes nothing before.
abbrev pub LaterChangesNothing : Program → Plan → Type 0
LaterChangesNothing p plan = (begins others : ℕ → Bool) (run : Run) (n : ℕ) → ((i : ℕ) → i < n → begins i ≡ others i) → SameUntil begins others p plan run run n

-- The region's own run, from where its first iteration starts, has the same epochs, causes and report.
pub record SameReport (begins : ℕ → Bool) (p : Program) (plan : Plan) (run own : Run) : Type 0 where
  pub until : (n : ℕ) → SameUntil begins begins p plan run own n
  pub report : region_report_with begins p plan run ≡ region_report_with begins p plan own

abbrev pub RegionReportsAlone : Program → Plan → Type 0
RegionReportsAlone p plan = (begins : ℕ → Bool) (input : List ℤ) (fuel k : ℕ) (c d : Config) → slice_get (run_of p input fuel c).configs k ≡ Some d →
    start (run_of p input fuel c) plan.region 0 ≡ Some k →
    SameReport begins p plan (run_of p input fuel c) (run_of p input (fuel - k) d)

-- The report of the first m iterations is gone on with by that of the rest, after any number of its iterations and in all.
pub record ReportGoesOn (begins : ℕ → Bool) (p : Program) (plan : Plan) (m : ℕ) (run rest : Run) : Type 0 where
  pub first : (n : ℕ) → report_first_with begins p plan run (m + n) ≡ gone_on (report_first_with begins p plan run m)
      (report_first_with (from_there m begins) p plan rest n)
  pub whole : region_report_with begins p plan run ≡ gone_on (report_first_with begins p plan run m) (region_report_with (from_there m begins) p plan rest)

-- So it is where an epoch begins at iteration m.
abbrev pub ReportsGoOn : Program → Plan → Type 0
ReportsGoOn p plan = (begins : ℕ → Bool) (m k : ℕ) (run rest : Run) → GoesOnAs plan.region m k run rest → is_some (start rest plan.region 0) ≡ true →
    epoch_with begins p plan run m ≡ m →
    ReportGoesOn begins p plan m run rest
