use Rattle.std.proofs.Common.{◌≡◌, length}
use Rattle.dp_lean_region.specs.steps.Tables.{AreStages}
use Rattle.dp_lean_region.proofs.stages.stage_tables.Given as goal

abbrev pub invariant-loop-place : goal.invariant-loop-place
invariant-loop-place l = (length l.stages ≡ l.place) × AreStages l.program l.plan l.kinds l.stages
