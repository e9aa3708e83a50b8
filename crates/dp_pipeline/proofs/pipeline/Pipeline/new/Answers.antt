use Rattle.std.proofs.Common.{arith, sym, subst}
use Rattle.dp_tree.specs.declared.Program.{Program}
use Rattle.dp_plan.specs.declared.Plan.{Plan}
use Rattle.dp_prepared.specs.Planned.{IsPlanned}
use Rattle.dp_pipeline.proofs.Settings.{setting_at}
use Rattle.dp_pipeline.proofs.pipeline.Pipeline.new.Goals as goal

pub pipeline_of-requires-clause-setting : goal.pipeline_of-requires-clause-setting
pipeline_of-requires-clause-setting c =
    let line = c.line-line.result in
    let planned = subst (λ (q : Program × Plan). IsPlanned q.0 q.1) (λ i. (sym c.line-line.ensures.program i, sym c.line-line.ensures.plan i))
    c.line-line.ensures.planned in
    setting_at (record { line = line; size = c.args.size; key = record { epoch = c.in_ok-epoch.epoch; stage = 1 } }) c.args.begin
    c.in_ok-epoch.ensures.key planned
    c.epochs_are_lawful.ensures c.requires.steps c.requires.fuel (omega arith)
