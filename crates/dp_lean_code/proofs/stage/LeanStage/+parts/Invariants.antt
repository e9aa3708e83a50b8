use Rattle.std.proofs.Common.{◌≡◌, ◌++◌, zero, length, drop}
use Rattle.dp_lean_code.specs.steps.Looked.{known_of}
use Rattle.dp_lean_code.specs.steps.Walked.{parts}
use Rattle.dp_lean_code.proofs.stage.LeanStage.+parts.Given as goal

abbrev pub invariant-statements-loop-place : goal.invariant-statements-loop-place
invariant-statements-loop-place l =
    let k = known_of l.self.program.now l.self.plan.now l.self.tables.now l.self.number in
    l.ops ++ parts l.self.program.now l.self.plan.now l.self.number k l.left (drop l.place l.all) (length l.ops)
    ≡ l.initial.ops ++ parts l.self.program.now l.self.plan.now l.self.number k zero l.all (length l.initial.ops)
