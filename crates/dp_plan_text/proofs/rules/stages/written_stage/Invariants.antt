use Rattle.std.proofs.Common.{◌≡◌, ◌+◌, drop}
use Rattle.dp_plan.specs.Written as written
use Rattle.dp_plan_text.proofs.rules.stages.written_stage.Given as goal

abbrev pub invariant-loop-place : goal.invariant-loop-place
invariant-loop-place l = written.stage_from (l.place + 1) (drop l.place l.lines) l.site ≡ written.stage_from 1 l.lines l.site
