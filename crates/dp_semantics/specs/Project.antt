-- The part of a region's text that a stage runs.
use Rattle.std.specs.Prelude.{ℕ, if◌then◌else◌, ◌==◌, Bool, List, [], ◌∷◌, ◌++◌, Option, Some, None, nat_le}
use Rattle.std.specs.List.{flat_map}
use Rattle.dp_tree.specs.declared.Stmt.{Stmt, Row_of-Stmt, end_of-Stmt, more_of-Stmt}
use Rattle.dp_tree.specs.declared.Stmt.TheVariants.{Assign, Store, Print, If, If', While, While', Region', Break, Call}
use Rattle.dp_tree.specs.declared.Program.{Program}
use Rattle.dp_tree.specs.declared.Assume.{Assume}
use Rattle.dp_plan.specs.declared.Plan.{Plan}
use Rattle.dp_plan.specs.Access.{stage_of}

-- the outcome that the plan assumes at an `if`
abbrev pub assumed_in : List Assume → ℕ → Option Bool
assumed_in [] site = None
assumed_in (a ∷ rest) site = if a.site.0 == site then Some a.taken else assumed_in rest site

-- the branch of that outcome
abbrev pub branch_of : Option Bool → List Stmt → List Stmt → List Stmt
branch_of None then_part else_part = []
branch_of (Some taken) then_part else_part = if taken then then_part else else_part

-- the statements where the site is of stage s or an earlier one, and the others elsewhere
abbrev pub where_reached : Program → Plan → ℕ → ℕ → List Stmt → List Stmt → List Stmt
where_reached p plan s site kept other = if nat_le (stage_of p plan site) s then kept else other

abbrev mutual
  -- A site of stage s or earlier stays. An `if` of a later stage gives way to its assumed branch, and any other statement is dropped.
  -- A region stands for one turn.
  pub project : Program → Plan → ℕ → Stmt → List Stmt
  project p plan s (Assign site x e) = where_reached p plan s site.0 (Assign site x e ∷ []) []
  project p plan s (Store site x index e) = where_reached p plan s site.0 (Store site x index e ∷ []) []
  project p plan s (Print site e) = where_reached p plan s site.0 (Print site e ∷ []) []
  project p plan s (If' site cond _ then_part _ else_part) =
      where_reached p plan s site.0 (If site cond (project_in p plan s then_part) (project_in p plan s else_part) ∷ [])
      (branch_of (assumed_in plan.assume site.0) (project_in p plan s then_part) (project_in p plan s else_part))
  project p plan s (While' site cond _ body) = where_reached p plan s site.0 (While site cond (project_in p plan s body) ∷ []) []
  project p plan s (Region' r site cond _ body) = If site cond (project_in p plan s body) [] ∷ []
  project p plan s (Break site cond) = where_reached p plan s site.0 (Break site cond ∷ []) []
  project p plan s (Call f line args) = []

  -- several statements, one after the other
  pub project_in : {n : _} → Program → Plan → ℕ → Row_of-Stmt n → List Stmt
  project_in p plan s end_of-Stmt = []
  project_in p plan s (more_of-Stmt x rest) = project p plan s x ++ project_in p plan s rest

-- the same of a list
abbrev pub project_all : Program → Plan → ℕ → List Stmt → List Stmt
project_all p plan s statements = flat_map (project p plan s) statements
