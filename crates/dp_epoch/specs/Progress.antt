-- How far a region was brought: what is committed of it, and what is reported.
use Rattle.std.specs.Prelude.{◌≡◌, ℕ, ◌≤◌, Bool, true, false, List, filter, length, Option, Some, None}
use Rattle.dp_base.specs.declared.Cause.{Cause as ReportedCause}
use Rattle.dp_base.specs.declared.RegionReport.{RegionReport}
use Rattle.dp_base.specs.declared.limits.TheConstants.{LISTED}
use Rattle.dp_tree.specs.InMain.{StandsInMain}
use Rattle.dp_tree.specs.Numbering.{regions_in_order}
use Rattle.dp_plan.specs.declared.Plan.{Plan}
use Rattle.dp_semantics.specs.Cause.{cause}
use Rattle.dp_tree.specs.Numbering.{numbers_from}
use Rattle.dp_semantics.specs.Fits.{fits_plan}
use Rattle.dp_semantics.specs.Recovery.{epoch, is_recovered}
use Rattle.dp_semantics.specs.Reported.{reported, report_of, region_report}
use Rattle.dp_meaning.specs.declared.ends.Part.TheVariants.{Region}
use Rattle.dp_meaning.specs.MachineState.{MachineState, next_part}
use Rattle.dp_commit.specs.CommittedState.{CommittedState, IsOpen, HoldsCommitted, region_run}
use Rattle.dp_view.specs.Following.{KeptBefore}
use Rattle.dp_view.specs.Viewed.{Viewed}
use Rattle.dp_epoch.specs.Accounts.{Reports}
use Rattle.dp_epoch.specs.declared.account.Account.{Account}
use Rattle.dp_epoch.specs.declared.ends.RegionEnd.{RegionEnd}
use Rattle.dp_epoch.specs.RegionRun.{RegionRan}

-- The plan fits the program, its region comes next, no step was made in it, and memory wasn't wanting.
pub record RegionBegins (plan : Plan) (first : MachineState) : Type 0 where
  pub fits : fits_plan first.program plan ≡ true
  pub tops : regions_in_order 1 first.program.main ≡ true
  pub stands : StandsInMain first.program first.config
  pub next : next_part first ≡ Region plan.region
  pub between : first.current ≡ None
  pub sound : first.spoiled ≡ false

-- the cause of iteration i, as it is reported
abbrev pub cause_of : Plan → MachineState → ℕ → ReportedCause
cause_of plan first i = reported (cause first.program plan (region_run first) i)

-- of the first n iterations those that are executed again
abbrev pub again_before : Plan → MachineState → ℕ → List ℕ
again_before plan first n = filter (is_recovered first.program plan (region_run first)) (numbers_from 0 n)

-- the report of the first n iterations
abbrev pub report_before : Plan → MachineState → ℕ → RegionReport
report_before plan first n = report_of plan.region n (again_before plan first n) (cause_of plan first)

-- What is kept for causes where iteration n begins is what the stages see. Where causes are asked for and nothing is kept, the report lists no further one.
abbrev pub Watching : Plan → MachineState → ℕ → Bool → Option Viewed → Type 0
Watching plan first n why None = why ≡ true → LISTED ≤ length (again_before plan first n)
Watching plan first n why (Some v) = (why ≡ true) × KeptBefore first.program plan (region_run first) (epoch first.program plan (region_run first) n) n v

-- The region isn't closed, what is committed is the source's, and what is told is that of the committed iterations.
pub record Progress (plan : Plan) (first : MachineState) (c : CommittedState) (account : Account) : Type 0 where
  pub start : RegionBegins plan first
  pub region : c.region ≡ plan.region
  pub is_open : IsOpen c
  pub holds : HoldsCommitted first c
  pub left : c.machine.config.to_do ≡ first.config.to_do
  pub report_is : Reports account (report_before plan first c.count)
  pub views_are : Watching plan first c.count account.why account.views

-- The region has ended so, and its report is whole.
pub record RegionDone (plan : Plan) (first : MachineState) (c : CommittedState) (account : Account) (end : RegionEnd) : Type 0 where
  pub ran : RegionRan first.program plan first c.machine end
  pub report_is : Reports account (region_report first.program plan (region_run first))
