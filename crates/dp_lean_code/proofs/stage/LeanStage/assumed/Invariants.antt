use Rattle.std.proofs.Common.{◌≡◌, drop}
use Rattle.dp_semantics.specs.Project.{assumed_in}
use Rattle.dp_lean_code.proofs.stage.LeanStage.assumed.Given as goal

abbrev pub invariant-loop-assumed : goal.invariant-loop-assumed
invariant-loop-assumed l = assumed_in (drop l.assumed-index l.self.plan.now.assume) l.site.0 ≡ assumed_in l.self.plan.now.assume l.site.0
