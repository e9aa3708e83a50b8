use Rattle.std.proofs.Common.{◌≡◌, ◌++◌, drop}
use Rattle.dp_report.specs.RegionText.{regions_bytes}
use Rattle.dp_report.proofs.regions.put_regions.Given as goal

abbrev pub invariant-loop-report : goal.invariant-loop-report
invariant-loop-report l = l.out ++ regions_bytes l.why (drop l.report-index l.reports) ≡ l.initial.out ++ regions_bytes l.why l.reports
