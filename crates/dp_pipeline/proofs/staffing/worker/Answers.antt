use Rattle.dp_pipeline.specs.Keys.{key_of}
use Rattle.dp_pipeline.proofs.Beginning.{worker_begins}
use Rattle.dp_pipeline.proofs.Staging.{runs_anywhere}
use Rattle.dp_pipeline.proofs.staffing.worker.Goals as goal

pub new-unit-requires-clause-start : goal.new-unit-requires-clause-start
new-unit-requires-clause-start c =
    let x = c.args.setting.now in let is = c.requires.setting in
    worker_begins c.in_ok-stage.stage c.args.at x.key
    (runs_anywhere c.in_ok-stage.stage (key_of x.key.epoch) x.key.stage c.requires.replicated c.in_ok-stage.ensures)
    c.requires.at is.fuel
