use Rattle.dp_pipeline.proofs.Beginning.{judging_begins, stages_before}
use Rattle.dp_pipeline.proofs.trying.judging_unit.Goals as goal

pub new-unit-requires-clause-start : goal.new-unit-requires-clause-start
new-unit-requires-clause-start c =
    let x = c.args.setting in
    judging_begins x.key c.args.source c.args.verdicts x.size.lane c.judge_of-judge.result.court c.judge_of-judge.ensures
    (stages_before x.key.epoch x.key.stage c.requires.stage) c.requires.source c.requires.count c.requires.verdicts c.requires.setting.fuel
