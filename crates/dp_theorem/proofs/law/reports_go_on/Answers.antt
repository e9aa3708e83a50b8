use Rattle.dp_theorem.proofs.Resumed as resumed
use Rattle.dp_theorem.proofs.law.reports_go_on.Goals as goal

pub returns : goal.returns
returns c = record {
  begins = resumed.begins_there c.args.p.now c.args.plan.now;
  before = resumed.later_changes_nothing c.args.p.now c.args.plan.now;
  alone = resumed.region_reports_alone c.args.p.now c.args.plan.now;
  pieces = resumed.reports_go_on c.args.p.now c.args.plan.now;
}
