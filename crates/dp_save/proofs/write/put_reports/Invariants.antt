use Rattle.std.proofs.Common.{◌≡◌, ◌++◌, drop}
use Rattle.dp_save.specs.WrittenText.{reports_text}
use Rattle.dp_save.proofs.write.put_reports.Given as goal

abbrev pub invariant-loop-report : goal.invariant-loop-report
invariant-loop-report l = l.out ++ reports_text (drop l.report-index l.reports) ≡ l.initial.out ++ reports_text l.reports
