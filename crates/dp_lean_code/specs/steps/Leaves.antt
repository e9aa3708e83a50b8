-- The code of a statement with no others inside, and of a condition; and whether there is any code.
use Rattle.std.specs.Prelude.{ℕ, if◌then◌else◌, Bool, true, false, List, [], ◌∷◌}
use Rattle.dp_base.specs.declared.SiteId.{SiteId}
use Rattle.dp_base.specs.declared.VarId.{VarId}
use Rattle.dp_tree.specs.declared.Expr.{Expr}
use Rattle.dp_tree.specs.declared.Program.{Program}
use Rattle.dp_tree.specs.Eval.{cell_count}
use Rattle.dp_plan.specs.declared.Plan.{Plan}
use Rattle.dp_code.specs.declared.Op.TheVariants as op
use Rattle.dp_code.specs.Code.{first_of_var}
use Rattle.dp_lean_code.specs.declared.LeanOp.{LeanOp}
use Rattle.dp_lean_code.specs.declared.LeanOp.TheVariants.{Plain}
use Rattle.dp_lean_code.specs.LeanCode.{behind, ending, leaving, value_code, by_stage, test_code, exit, consume}

-- there is an op
abbrev pub has_ops : List LeanOp → Bool
has_ops [] = false
has_ops (op ∷ rest) = true

-- the whole where there is something in it, and else what stood in front
abbrev pub where_filled : Bool → List LeanOp → List LeanOp → List LeanOp
where_filled filled front whole = if filled then whole else front

module _ (p : Program) (plan : Plan) (s : ℕ) where
  -- the code of an assignment to a variable, by its stage
  abbrev pub assign_code : SiteId → VarId → Expr → ℕ → List LeanOp
  assign_code site x e at = by_stage p plan s site (behind at (value_code p e at) (ending (Plain (op.Store site (first_of_var p x))))) (consume p plan s site x)

  -- .. to an element
  abbrev pub store_code : SiteId → VarId → Expr → Expr → ℕ → List LeanOp
  store_code site x index e at =
      by_stage p plan s site
      (behind at (value_code p index at) (λ j. behind j (value_code p e j) (ending (Plain (op.StoreAt site (first_of_var p x) (cell_count p x))))))
      (consume p plan s site x)

  -- .. and of a print
  abbrev pub print_code : SiteId → Expr → ℕ → List LeanOp
  print_code site e at = by_stage p plan s site (behind at (value_code p e at) (ending (Plain (op.Print site)))) (Plain (op.ConsumePrint site) ∷ [])

  -- a condition's value, and then code by its value
  abbrev pub tested : SiteId → Expr → (ℕ → List LeanOp) → ℕ → List LeanOp
  tested site cond next at = behind at (test_code p plan s site cond at) next

  -- .. and of an early exit
  abbrev pub break_code : SiteId → Expr → ℕ → List LeanOp
  break_code site cond at = tested site cond (leaving (exit p plan s site)) at
