use Rattle.dp_theorem.proofs.Shift.{epochs_shift, region_runs_alone, verdicts_shift}
use Rattle.dp_theorem.proofs.law.verdicts_go_on.Goals as goal

pub returns : goal.returns
returns c = record {
  verdicts = verdicts_shift c.args.p.now c.args.plan.now;
  epochs = epochs_shift c.args.p.now c.args.plan.now;
  alone = region_runs_alone c.args.p.now c.args.plan.now;
}
