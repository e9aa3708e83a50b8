use Rattle.std.proofs.Common.{◌∙◌, sym, arith}
use Rattle.dp_lean_code.specs.steps.Looked.{known_of}
use Rattle.dp_lean_code.proofs.StoredForms.{stored_found, stored_past, stored_over}
use Rattle.dp_lean_code.proofs.stage.LeanStage.+stored.Goals as goal

pub does_inside-returns-then-does_in : goal.does_inside-returns-then-does_in
does_inside-returns-then-does_in t c =
    let p = c.args.self.program.now in let plan = c.args.self.plan.now in let s = c.args.self.number in
    stored_found p plan s (known_of p plan c.args.self.tables.now s) c.args.all.now c.loop-statement.statement-index c.loop-statement.invariant
    c.statement-item.result (omega arith) c.statement-item.is (sym c.does_in.ensures ∙ c.if-does_in.true)

pub does_inside-loop-statement-preserved : goal.does_inside-loop-statement-preserved
does_inside-loop-statement-preserved t c =
    let p = c.args.self.program.now in let plan = c.args.self.plan.now in let s = c.args.self.number in
    stored_past p plan s (known_of p plan c.args.self.tables.now s) c.args.all.now c.loop-statement.statement-index c.loop-statement.invariant
    c.statement-item.result (omega arith) c.statement-item.is (sym c.does_in.ensures ∙ c.if-does_in.false)

pub does_inside-returns : goal.does_inside-returns
does_inside-returns t c =
    let p = c.args.self.program.now in let plan = c.args.self.plan.now in let s = c.args.self.number in
    stored_over p plan s (known_of p plan c.args.self.tables.now s) c.args.all.now c.loop-statement.statement-index c.loop-statement.invariant (omega arith)
