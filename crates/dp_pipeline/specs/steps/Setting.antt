-- What the units of an epoch run on.
use Rattle.std.specs.Prelude.{◌≤◌, ◌<◌}
use Rattle.dp_prepared.specs.Planned.{IsPlanned}
use Rattle.dp_lean_region.specs.Laws.{IsLawful}
use Rattle.dp_lean_region.specs.Line.{IsLineOf}
use Rattle.dp_pipeline.specs.Carried.{lean_of}
use Rattle.dp_pipeline.specs.Keys.{key_of}
use Rattle.dp_pipeline.specs.declared.setting.Setting.{Setting}

-- an epoch of a region that is planned, and its line
pub record IsSetting (x : Setting) : Type 0 where
  pub planned : IsPlanned x.key.epoch.p.now x.key.epoch.plan.now
  pub lawful : IsLawful (lean_of (key_of x.key.epoch))
  pub line : IsLineOf (lean_of (key_of x.key.epoch)) x.line
  pub steps : x.key.epoch.steps ≤ x.key.epoch.fuel
  pub fuel : x.key.epoch.fuel ≤ 1000000000
  pub numbered : 0 < x.key.stage
