use Rattle.std.proofs.Common.{refl}
use Rattle.dp_pipeline.proofs.Beginning.{stage_begins}
use Rattle.dp_pipeline.proofs.staffing.staged.Goals as goal

pub returns : goal.returns
returns c =
    let x = c.args.setting.now in record {
      stage = c.in_ok-machine.ensures.stage;
      fuel = refl;
      stands = stage_begins x c.requires.setting c.in_ok-machine.machine c.args.stage c.requires.stage.1 c.in_ok-machine.ensures.begins;
    }
