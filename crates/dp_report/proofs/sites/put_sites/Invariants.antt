use Rattle.std.proofs.Common.{◌≡◌, ◌+◌, ◌++◌, drop}
use Rattle.dp_report.specs.Lines.{numbered}
use Rattle.dp_report.specs.SiteText.{site_line}
use Rattle.dp_report.proofs.sites.put_sites.Given as goal

abbrev pub invariant-loop-place : goal.invariant-loop-place
invariant-loop-place l = l.out ++ numbered site_line (l.place + 1) (drop l.place l.sites) ≡ l.initial.out ++ numbered site_line 1 l.sites
