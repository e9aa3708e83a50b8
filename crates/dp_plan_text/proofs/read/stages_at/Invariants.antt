use Rattle.std.proofs.Common.{◌≡◌, ◌++◌, drop, map}
use Rattle.dp_plan.specs.Written as written
use Rattle.dp_plan_text.proofs.read.stages_at.Given as goal

abbrev pub invariant-loop-site : goal.invariant-loop-site
invariant-loop-site l = l.stages ++ map (written.written_stage l.w) (drop l.site-index l.sites) ≡ map (written.written_stage l.w) l.sites
