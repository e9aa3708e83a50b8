use Rattle.std.proofs.Common.{◌≡◌, ◌++◌, drop}
use Rattle.std.specs.List.{flat_map}
use Rattle.dp_plan.specs.Access.{region_statement}
use Rattle.dp_lean_code.specs.steps.Runs.{region_counts}
use Rattle.dp_lean_code.proofs.CountLists.{in_region}
use Rattle.dp_lean_code.proofs.quiet.Runs.blocks.Given as goal

abbrev pub invariant-loop-statement : goal.invariant-loop-statement
invariant-loop-statement l =
    l.blocks ++ in_region l.self.program.now l.self.plan.now l.self.homes.now (drop l.statement-index l.self.program.now.main)
    ≡ flat_map (region_counts l.self.program.now l.self.plan.now l.self.homes.now) (region_statement l.self.program.now l.self.plan.now)
