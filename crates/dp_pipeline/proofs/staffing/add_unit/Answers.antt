use Rattle.dp_pipeline.specs.Keys.{key_of}
use Rattle.dp_pipeline.proofs.Beginning.{passage_begins}
use Rattle.dp_pipeline.proofs.staffing.add_unit.Goals as goal

pub new-unit-requires-clause-start : goal.new-unit-requires-clause-start
new-unit-requires-clause-start c =
    let start = c.requires.start in
    passage_begins c.in_ok-stage.stage c.args.source c.args.target (key_of c.args.setting.now.key.epoch) c.args.stage c.in_ok-stage.ensures start.0 start.1
    c.requires.counts.0 c.requires.counts.1 c.requires.counts.2
