use Rattle.std.proofs.Common.{◌≡◌, ◌++◌, drop}
use Rattle.std.specs.List.{flat_map}
use Rattle.dp_plan.specs.Written as written
use Rattle.dp_plan_text.proofs.rules.lists.listed.Given as goal

abbrev pub invariant-loop-line : goal.invariant-loop-line
invariant-loop-line l = l.sites ++ flat_map written.sites_in (drop l.line-index l.lines) ≡ flat_map written.sites_in l.lines
