use Rattle.std.proofs.Common.{◌≡◌, ◌+◌, ◌++◌, drop}
use Rattle.dp_report.specs.Lines.{numbered}
use Rattle.dp_report.specs.SiteText.{region_sites_line}
use Rattle.dp_report.proofs.sites.put_regions.Given as goal

abbrev pub invariant-loop-place : goal.invariant-loop-place
invariant-loop-place l = l.out ++ numbered region_sites_line (l.place + 1) (drop l.place l.regions) ≡ l.initial.out ++ numbered region_sites_line 1 l.regions
