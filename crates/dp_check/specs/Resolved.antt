-- The tree with numbers that a tree with names stands for.
use Rattle.std.specs.Prelude.{ℕ, ◌+◌, Bool, true, false, List, [], ◌∷◌, ◌++◌, map, Option, Some, None, if◌then◌else◌}
use Rattle.dp_base.specs.declared.SiteId.{SiteId}
use Rattle.dp_base.specs.declared.VarId.{VarId}
use Rattle.dp_tree.specs.declared.Expr.{Expr}
use Rattle.dp_tree.specs.declared.Expr.TheVariants as tree
use Rattle.dp_tree.specs.declared.Stmt.{Stmt}
use Rattle.dp_tree.specs.declared.Stmt.TheVariants as code
use Rattle.dp_tree.specs.declared.raw.Name.{Name}
use Rattle.dp_tree.specs.declared.raw.RawExpr.{RawExpr, end_of-RawExpr, more_of-RawExpr}
use Rattle.dp_tree.specs.declared.raw.RawExpr.TheVariants as raw
use Rattle.dp_tree.specs.declared.raw.RawStmt.{RawStmt, Row_of-RawStmt, end_of-RawStmt, more_of-RawStmt, out-RawStmt}
use Rattle.dp_tree.specs.declared.raw.RawStmt.TheVariants.{Declare, Assign, Store, Call, Print, If', While', For', Break}
use Rattle.dp_tree.specs.declared.raw.RawStmt.TheOpen.{RawStmt-F, While, For}
use Rattle.dp_check.specs.declared.names.Meaning.{Meaning}
use Rattle.dp_check.specs.declared.names.Meaning.TheVariants.{Scalar, Array, Function}
use Rattle.dp_check.specs.declared.place.Place.{Place}
use Rattle.dp_check.specs.Names.{Named, named}
use Rattle.dp_check.specs.Place.{sited, place_passed, parts_in, parts_all, place_after, after_in, place_after_all, with_scalar}

-- the variable's number; in a lawful text the name is one
abbrev pub variable_of : Option Meaning → VarId
variable_of (Some (Scalar x)) = x
variable_of (Some (Array x)) = x
variable_of _ = record { 0 = 0 }

-- the function's number; in a lawful text the name is one
abbrev pub function_of : Option Meaning → ℕ
function_of (Some (Function number params)) = number
function_of _ = 0

-- the number of the array; what has an index and isn't one of the text's arrays is the input
abbrev pub array_of : Option Meaning → Option VarId
array_of (Some (Array x)) = Some x
array_of _ = None

-- a name without an index; what isn't one of the text's scalars is the input's length
abbrev pub scalar_expr : Option Meaning → Expr
scalar_expr (Some (Scalar x)) = tree.Scalar x
scalar_expr _ = tree.InputLen

-- an element of the array, or else of the input
abbrev pub element_expr : Option VarId → Expr → Expr
element_expr (Some x) index = tree.Element x index
element_expr None index = tree.Input index

-- the expression with what its names mean
abbrev pub resolved_expr : List Named → RawExpr → Expr
resolved_expr names (raw.Number n) = tree.Number n
resolved_expr names (raw.Scalar name) = scalar_expr (named names name.text)
resolved_expr names (raw.Element' name _ (more_of-RawExpr e end_of-RawExpr)) = element_expr (array_of (named names name.text)) (resolved_expr names e)
resolved_expr names (raw.Unary' op _ (more_of-RawExpr a end_of-RawExpr)) = tree.Unary op (resolved_expr names a)
resolved_expr names (raw.Binary' op _ (more_of-RawExpr a end_of-RawExpr) _ (more_of-RawExpr b end_of-RawExpr)) =
    tree.Binary op (resolved_expr names a) (resolved_expr names b)
resolved_expr names (raw.And' _ (more_of-RawExpr a end_of-RawExpr) _ (more_of-RawExpr b end_of-RawExpr)) =
    tree.And (resolved_expr names a) (resolved_expr names b)
resolved_expr names (raw.Or' _ (more_of-RawExpr a end_of-RawExpr) _ (more_of-RawExpr b end_of-RawExpr)) =
    tree.Or (resolved_expr names a) (resolved_expr names b)

-- the site and the variable with the next numbers
abbrev pub next_site : Place → SiteId
next_site p = record { 0 = p.site }

abbrev pub next_variable : Place → VarId
next_variable p = record { 0 = p.variable }

abbrev mutual
  -- The statements that one at a place stands for: a `for` is its initialiser and a loop whose body ends with the step, and any
  -- other stands for one. A mark on a loop means nothing here.
  pub resolved : Place → RawStmt → List Stmt
  resolved p (Declare line name value) = code.Assign (next_site p) (next_variable p) (resolved_expr p.names value) ∷ []
  resolved p (Assign name value) = code.Assign (next_site p) (variable_of (named p.names name.text)) (resolved_expr p.names value) ∷ []
  resolved p (Store name index value) =
      code.Store (next_site p) (variable_of (named p.names name.text)) (resolved_expr p.names index) (resolved_expr p.names value) ∷ []
  resolved p (Call name args) = code.Call (function_of (named p.names name.text)) name.line (map (resolved_expr p.names) args) ∷ []
  resolved p (Print line value) = code.Print (next_site p) (resolved_expr p.names value) ∷ []
  resolved p (If' line cond _ then_part _ else_part) =
      code.If (next_site p) (resolved_expr p.names cond) (resolved_in (sited p) then_part)
      (resolved_in (place_passed (sited p) (parts_in then_part)) else_part) ∷ []
  resolved p (While' line marked cond _ body) = code.While (next_site p) (resolved_expr p.names cond) (resolved_in (sited p) body) ∷ []
  resolved p (For' line marked _ first cond _ step _ body) =
      resolved_in p first ++ code.While (next_site (after_in p first)) (resolved_expr (after_in p first).names cond)
      (resolved_in (sited (after_in p first)) body ++ resolved_in (place_passed (sited (after_in p first)) (parts_in body)) step) ∷ []
  resolved p (Break line cond) = code.Break (next_site p) (resolved_expr p.names cond) ∷ []

  -- the same of the statements of a block
  pub resolved_in : {n : _} → Place → Row_of-RawStmt n → List Stmt
  resolved_in p end_of-RawStmt = []
  resolved_in p (more_of-RawStmt s rest) = resolved p s ++ resolved_in (place_after p s) rest

-- the same of a list
abbrev pub resolved_all : Place → List RawStmt → List Stmt
resolved_all p [] = []
resolved_all p (s ∷ rest) = resolved p s ++ resolved_all (place_after p s) rest

-- the form is that of a marked loop
abbrev pub is_marked_loop_at : RawStmt-F RawStmt → Bool
is_marked_loop_at (While line marked cond body) = marked
is_marked_loop_at (For line marked first cond step body) = marked
is_marked_loop_at _ = false

-- a marked loop; it is a region where it stands at the top of `main`
abbrev pub is_marked_loop : RawStmt → Bool
is_marked_loop s = is_marked_loop_at (out-RawStmt s)

-- the body of a loop with a step, from the place behind its condition
abbrev pub with_loop_step : Place → List RawStmt → List RawStmt → List Stmt
with_loop_step p step body = resolved_all p body ++ resolved_all (place_passed p (parts_all body)) step

-- region r with a step, from the place behind its initialiser
abbrev pub stepped_region : Place → ℕ → RawExpr → List RawStmt → List RawStmt → Stmt
stepped_region p r cond step body = code.Region r (next_site p) (resolved_expr p.names cond) (with_loop_step (sited p) step body)

-- a marked loop as region r, behind the initialiser if it has one, and another statement as it was
abbrev pub region_at : Place → ℕ → RawStmt-F RawStmt → List Stmt → List Stmt
region_at p r (While line true cond body) plain = code.Region r (next_site p) (resolved_expr p.names cond) (resolved_all (sited p) body) ∷ []
region_at p r (For line true first cond step body) plain =
    resolved_all p first ++ stepped_region (place_after_all p first) r cond step body ∷ []
region_at p r _ plain = plain

-- a statement at the top of `main`, where region r is the next one
abbrev pub resolved_top : Place → ℕ → RawStmt → List Stmt
resolved_top p r s = region_at p r (out-RawStmt s) (resolved p s)

-- `main`, where region r is the next one
abbrev pub resolved_main : Place → ℕ → List RawStmt → List Stmt
resolved_main p r [] = []
resolved_main p r (s ∷ rest) = resolved_top p r s ++ resolved_main (place_after p s) (if is_marked_loop s then r + 1 else r) rest

-- the variables of a function's parameters
abbrev pub param_variables : Place → List Name → List VarId
param_variables p [] = []
param_variables p (x ∷ rest) = next_variable p ∷ param_variables (with_scalar p x) rest
