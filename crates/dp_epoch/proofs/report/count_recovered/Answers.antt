use Rattle.dp_epoch.proofs.Counting.{told_counts}
use Rattle.dp_epoch.proofs.report.count_recovered.Goals as goal

pub returns-clause-counted : goal.returns-clause-counted
returns-clause-counted c why r n again f e w = told_counts why r n again f c.list.new.report c.args.number (c.in_ok-list.ensures.listed why r n again f e w)
