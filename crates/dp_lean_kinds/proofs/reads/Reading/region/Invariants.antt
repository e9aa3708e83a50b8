use Rattle.std.proofs.Common.{◌≡◌, ◌++◌, drop}
use Rattle.dp_lean_code.specs.steps.Looked.{known_of}
use Rattle.dp_lean_kinds.specs.steps.Read.{stage_read}
use Rattle.dp_lean_kinds.proofs.ReadAppended.{in_region}
use Rattle.dp_lean_kinds.proofs.reads.Reading.region.Given as goal

abbrev pub invariant-loop-statement : goal.invariant-loop-statement
invariant-loop-statement l =
    let p = l.self.stage.program.now in let plan = l.self.stage.plan.now in let s = l.self.stage.number in
    l.out ++ in_region p plan s (known_of p plan l.self.stage.tables.now s) (drop l.statement-index p.main) ≡ l.initial.out
    ++ stage_read p plan l.self.stage.tables.now s
