use Rattle.std.proofs.Common.{ℕ, false, get_or}
use Rattle.dp_plan.specs.declared.Plan.{Plan}
use Rattle.dp_lean_code.proofs.HiddenMarks.{SoFar}
use Rattle.dp_lean_code.proofs.tables.LeanTables.hidden.Given as goal

abbrev pub invariant-loop-place : goal.invariant-loop-place
invariant-loop-place l = (plan : Plan) (c : ℕ) → SoFar l.p plan l.stage c l.self.homes l.place (get_or l.hidden c false) l.place
