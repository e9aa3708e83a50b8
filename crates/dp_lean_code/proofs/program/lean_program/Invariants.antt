use Rattle.std.proofs.Common.{◌≡◌, ◌++◌, drop, length}
use Rattle.dp_plan.specs.Access.{region_statement}
use Rattle.dp_lean_code.specs.steps.Looked.{known_of}
use Rattle.dp_lean_code.specs.steps.Walked.{regions}
use Rattle.dp_lean_code.proofs.RegionWalk.{in_region}
use Rattle.dp_lean_code.proofs.program.lean_program.Given as goal

abbrev pub invariant-loop-statement : goal.invariant-loop-statement
invariant-loop-statement l =
    let k = known_of l.p l.plan l.tables l.stage in
    l.ops ++ in_region l.p l.plan l.stage k (drop l.statement-index l.p.main) (length l.ops) ≡ regions l.p l.plan l.stage k (region_statement l.p l.plan) 0
