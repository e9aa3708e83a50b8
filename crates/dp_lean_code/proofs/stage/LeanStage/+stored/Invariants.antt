use Rattle.std.proofs.Common.{◌≡◌, drop}
use Rattle.dp_lean_code.specs.steps.Looked.{known_of}
use Rattle.dp_lean_code.specs.steps.Walked.{stored_inside}
use Rattle.dp_lean_code.proofs.stage.LeanStage.+stored.Given as goal

abbrev pub invariant-does_inside-loop-statement : goal.invariant-does_inside-loop-statement
invariant-does_inside-loop-statement l =
    let k = known_of l.self.program.now l.self.plan.now l.self.tables.now l.self.number in
    stored_inside l.self.program.now l.self.plan.now l.self.number k (drop l.statement-index l.all) ≡ stored_inside l.self.program.now l.self.plan.now
    l.self.number k l.all
