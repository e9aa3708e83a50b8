use Rattle.std.proofs.Common.{◌≡◌, ◌++◌, length, drop}
use Rattle.dp_lean_code.specs.steps.Silenced.{silent_parts}
use Rattle.dp_lean_code.proofs.stage.LeanStage.+silent.Given as goal

abbrev pub invariant-silent-loop-statement : goal.invariant-silent-loop-statement
invariant-silent-loop-statement l =
    l.ops ++ silent_parts l.self.program.now l.self.plan.now l.self.number (drop l.statement-index l.all) (length l.ops)
    ≡ l.initial.ops ++ silent_parts l.self.program.now l.self.plan.now l.self.number l.all (length l.initial.ops)
