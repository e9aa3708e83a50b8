use Rattle.std.proofs.Common.{◌+◌, ◌-◌, ◌≡◌, ◌≤◌, length, false}
use Rattle.dp_plan.specs.Access.{is_replicated}
use Rattle.dp_pipeline.specs.Keys.{key_of}
use Rattle.dp_pipeline.specs.steps.Setting.{IsSetting}
use Rattle.dp_pipeline.specs.Standing.{GivesBatches, source_facts}
use Rattle.dp_pipeline.proofs.UnitCounts.{Staffed}
use Rattle.dp_pipeline.proofs.making.pipeline_of.Given as goal

abbrev pub invariant-loop-setting : goal.invariant-loop-setting
invariant-loop-setting l =
    IsSetting l.setting × GivesBatches l.source (key_of l.setting.key.epoch) (l.setting.key.stage - 1) 0 × ((source_facts l.source).count ≡ 0)
    × (l.setting.key.stage ≤ l.stages + 1) × (l.stages ≤ 8)
    × (l.stages ≡ length l.setting.key.epoch.plan.now.stages) × (l.setting.key.epoch ≡ l.fn.setting.key.epoch) × (l.setter ≡ l.fn.setter)
    × (is_replicated l.setting.key.epoch.plan.now l.setting.key.stage ≡ false) × (l.setting.size ≡ l.fn.setting.size)
    × Staffed l.setting.size.workers l.setting.key.epoch.plan.now l.setting.key.stage (length l.units)

abbrev pub decreases-loop-setting : goal.decreases-loop-setting
decreases-loop-setting l = l.stages + 1 - l.setting.key.stage
