-- The code of an own block's statements, by the statement's form.
use Rattle.std.specs.Prelude.{ℕ, List, []}
use Rattle.dp_base.specs.declared.SiteId.{SiteId}
use Rattle.dp_tree.specs.declared.Expr.{Expr}
use Rattle.dp_tree.specs.declared.Stmt.{Stmt}
use Rattle.dp_tree.specs.declared.Program.{Program}
use Rattle.dp_plan.specs.declared.Plan.{Plan}
use Rattle.dp_lean_code.specs.declared.LeanOp.{LeanOp}
use Rattle.dp_lean_code.specs.LeanCode.{choice, repetition, branch, no_blocks, stmt_code, silent_code}
use Rattle.dp_lean_code.specs.steps.Walked.{tested}

module _ (p : Program) (plan : Plan) (s : ℕ) where
  -- the code of one of them, which stands from a place on
  unfoldable pub silent_part : Stmt → ℕ → List LeanOp
  silent_part x at = stmt_code p plan s (no_blocks p plan s) (λ site block at. []) x at

  -- .. and of several
  unfoldable pub silent_parts : List Stmt → ℕ → List LeanOp
  silent_parts xs at = silent_code p plan s xs at

  abbrev pub silent_if : SiteId → Expr → List Stmt → List Stmt → ℕ → List LeanOp
  silent_if site cond a b at = tested p plan s site cond (choice (branch p plan s site) (silent_parts a) (silent_parts b)) at

  abbrev pub silent_while : SiteId → Expr → List Stmt → ℕ → List LeanOp
  silent_while site cond a at = tested p plan s site cond (repetition at (branch p plan s site) (silent_parts a)) at
