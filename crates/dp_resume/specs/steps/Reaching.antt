-- How far a region is brought that is to be left before an iteration.
use Rattle.std.specs.Prelude.{◌≡◌, ℕ, ◌+◌, false, List, take, ℤ, Option, Some, None}
use Rattle.dp_base.specs.declared.RegionReport.{RegionReport}
use Rattle.dp_tree.specs.declared.Program.{Program}
use Rattle.dp_tree.specs.Iteration.{start}
use Rattle.dp_tree.specs.Trace.{Run, prints}
use Rattle.dp_plan.specs.declared.Plan.{Plan}
use Rattle.dp_semantics.specs.Reported.{region_report}
use Rattle.dp_meaning.specs.MachineState.{MachineState}
use Rattle.dp_meaning.specs.declared.ends.IterEnd.{IterEnd}
use Rattle.dp_meaning.specs.declared.ends.IterEnd.TheVariants.{Next, Closed, Fault, Fuel, Going}
use Rattle.dp_commit.specs.CommittedState.{CommittedState}
use Rattle.dp_epoch.specs.Accounts.{told_when}
use Rattle.dp_epoch.specs.declared.account.Account.{Account}
use Rattle.dp_epoch.specs.declared.ends.RegionEnd.{RegionEnd}
use Rattle.dp_epoch.specs.declared.ends.RegionEnd.TheVariants as region_end
use Rattle.dp_epoch.specs.Progress.{Progress, report_before}
use Rattle.dp_epoch.specs.RegionRun.{RegionRan, region_run}
use Rattle.dp_audit.specs.declared.runner.Runner.{Runner}
use Rattle.dp_audit.specs.Runs.{RegionStands}

-- what the run prints up to so many steps, or in all
abbrev pub prints_until : Run → Option ℕ → List ℤ
prints_until run None = prints run.trace
prints_until run (Some k) = prints (take k run.trace)

-- the runner's machine
abbrev pub machine_of : Runner → MachineState
machine_of r = r.ledger.committed.machine

-- how a region ended by an iteration that ended so, if it did
abbrev pub ended_so : IterEnd → Option RegionEnd
ended_so Next = None
ended_so Closed = Some region_end.Closed
ended_so (Fault fault) = Some (region_end.Fault fault)
ended_so Fuel = Some region_end.Fuel
ended_so Going = Some region_end.Fuel

-- The region has ended so, its report is whole but for causes, and its iteration n isn't reached.
pub record EndsBefore (p : Program) (plan : Plan) (first last : MachineState) (n : ℕ) (report : RegionReport) (end : RegionEnd) : Type 0 where
  pub ran : RegionRan p plan first last end
  pub report_is : told_when false report ≡ told_when false (region_report p plan (region_run first))
  pub unreached : start (region_run first) plan.region n ≡ None

-- where the next iteration behind n of them leads
abbrev pub Steps : Program → Plan → List ℤ → MachineState → ℕ → Runner → Option RegionEnd → Type 0
Steps p plan input first n r None = RegionStands p plan input first (n + 1) r
Steps p plan input first n r (Some end) = EndsBefore p plan first (machine_of r) (n + 1) r.ledger.account.report end

-- The first n iterations were made, and are reported without causes, and the machine stands before the next one.
pub record StandsBefore (plan : Plan) (first last : MachineState) (n : ℕ) (report : RegionReport) : Type 0 where
  pub committed : CommittedState
  pub account : Account
  pub machine_is : committed.machine ≡ last
  pub count : committed.count ≡ n
  pub progress : Progress plan first committed account
  pub report_is : report ≡ told_when false (report_before plan first n)

-- the region was left before its iteration n, or has ended before
abbrev pub Stops : Program → Plan → MachineState → ℕ → MachineState → RegionReport → Option RegionEnd → Type 0
Stops p plan first n last report None = StandsBefore plan first last n report
Stops p plan first n last report (Some end) = EndsBefore p plan first last n report end
