-- What a region's report says: how many iterations were begun, and which were executed again, and why.
use Rattle.std.specs.Prelude.{ℕ, ◌+◌, Bool, List, ◌++◌, length, map, take}
use Rattle.dp_base.specs.declared.Cause.{Cause as ReportedCause}
use Rattle.dp_base.specs.declared.Cause.TheVariants as why
use Rattle.dp_base.specs.declared.RegionReport.{RegionReport}
use Rattle.dp_base.specs.declared.limits.TheConstants.{LISTED}
use Rattle.dp_tree.specs.declared.Program.{Program}
use Rattle.dp_tree.specs.Trace.{Run}
use Rattle.dp_tree.specs.Iteration.{begun_count}
use Rattle.dp_plan.specs.declared.Plan.{Plan}
use Rattle.dp_semantics.specs.Recovery.{recovered_first_with, nowhere}
use Rattle.dp_semantics.specs.Cause.{Cause, ByLoad, ByAssumption, ByWords, ByFault, ByFuel, cause_with}

-- the cause as a report has it
abbrev pub reported : Cause → ReportedCause
reported (ByLoad site cell seen source) = why.Load (record { 0 = site }) (record { 0 = cell }) seen source
reported (ByAssumption site) = why.Assumed (record { 0 = site })
reported (ByWords stage site) = why.Words stage (record { 0 = site })
reported (ByFault fault) = why.Fault fault
reported ByFuel = why.Fuel

-- the report of these begun iterations, of which those were executed again: the first of them are listed, each with its cause
abbrev pub report_of : ℕ → ℕ → List ℕ → (ℕ → ReportedCause) → RegionReport
report_of region n again cause_is =
    record { region = region; iterations = n; recovered_count = length again; recovered = take LISTED again; causes = map cause_is (take LISTED again) }

-- the report of the first n iterations, where some begin an epoch in any case
abbrev pub report_first_with : (ℕ → Bool) → Program → Plan → Run → ℕ → RegionReport
report_first_with begins p plan run n = report_of plan.region n (recovered_first_with begins p plan run n) (λ i. reported (cause_with begins p plan run i))

-- .. and of all that are begun
abbrev pub region_report_with : (ℕ → Bool) → Program → Plan → Run → RegionReport
region_report_with begins p plan run = report_first_with begins p plan run (begun_count run plan.region)

-- the report of the plan's region in a run
abbrev pub region_report : Program → Plan → Run → RegionReport
region_report p plan run = region_report_with nowhere p plan run

-- a report of some iterations that goes on with the report of those behind them, which counts them from 0
abbrev pub gone_on : RegionReport → RegionReport → RegionReport
gone_on before behind = record {
  region = before.region;
  iterations = before.iterations + behind.iterations;
  recovered_count = before.recovered_count + behind.recovered_count;
  recovered = take LISTED (before.recovered ++ map (λ i. before.iterations + i) behind.recovered);
  causes = take LISTED (before.causes ++ behind.causes);
}
