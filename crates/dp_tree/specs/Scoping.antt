-- Names in scope: each variable that a text names is visible there, and each function that it calls stands before it.
use Rattle.std.specs.Prelude.{ℕ, zero, suc, ◌==◌, if◌then◌else◌, Bool, true, false, not, ◌&&◌, ◌||◌, List, [], ◌∷◌, length, Option, Some, None, slice_get}
use Rattle.std.specs.Prelude.{nat_lt}
use Rattle.std.specs.List.{list_all, list_any}
use Rattle.dp_base.specs.declared.VarId.{VarId}
use Rattle.dp_tree.specs.declared.Expr.{Expr, end_of-Expr, more_of-Expr}
use Rattle.dp_tree.specs.declared.Expr.TheVariants.{Number, Input', InputLen, Scalar, Element', Unary', Binary', And', Or'}
use Rattle.dp_tree.specs.declared.Stmt.{Stmt, Row_of-Stmt, end_of-Stmt, more_of-Stmt}
use Rattle.dp_tree.specs.declared.Stmt.TheVariants.{Assign, Store, Print, If', While', Region', Break, Call}
use Rattle.dp_tree.specs.declared.VarInfo.{VarInfo}
use Rattle.dp_tree.specs.declared.VarScope.{VarScope}
use Rattle.dp_tree.specs.declared.VarScope.TheVariants.{Outer, Body}
use Rattle.dp_tree.specs.declared.Function.{Function}
use Rattle.dp_tree.specs.declared.Program.{Program}
use Rattle.dp_tree.specs.Functions.{params_in}
use Rattle.dp_tree.specs.Globals.{globals_in}
use Rattle.dp_tree.specs.Numbering.{numbers_from}

-- the variable is one of these
abbrev pub sees : List ℕ → VarId → Bool
sees visible x = list_any (λ y. y == x.0) visible

-- each variable that the expression names is one of these
abbrev pub knows : List ℕ → Expr → Bool
knows visible (Number n) = true
knows visible (Input' _ (more_of-Expr e end_of-Expr)) = knows visible e
knows visible InputLen = true
knows visible (Scalar x) = sees visible x
knows visible (Element' x _ (more_of-Expr e end_of-Expr)) = sees visible x && knows visible e
knows visible (Unary' op _ (more_of-Expr a end_of-Expr)) = knows visible a
knows visible (Binary' op _ (more_of-Expr a end_of-Expr) _ (more_of-Expr b end_of-Expr)) = knows visible a && knows visible b
knows visible (And' _ (more_of-Expr a end_of-Expr) _ (more_of-Expr b end_of-Expr)) = knows visible a && knows visible b
knows visible (Or' _ (more_of-Expr a end_of-Expr) _ (more_of-Expr b end_of-Expr)) = knows visible a && knows visible b

-- a local of region r, or of no region where r is 0
abbrev pub is_scope_in : ℕ → VarScope → Bool
is_scope_in zero Outer = true
is_scope_in (suc r) (Body q) = q == suc r
is_scope_in _ _ = false

-- the entry is that of such a local
abbrev pub is_declared_in : ℕ → Option VarInfo → Bool
is_declared_in r None = false
is_declared_in r (Some info) = is_scope_in r info.scope

-- The variables that are visible behind a statement: the first assignment to a local declares it, up to the end of its block.
abbrev pub seen_behind : List ℕ → Stmt → List ℕ
seen_behind visible (Assign site x e) = if sees visible x then visible else x.0 ∷ visible
seen_behind visible s = visible

abbrev mutual
  -- The statement, in region r or outside all regions where r is 0, names only visible variables and calls only the
  -- first n functions, each with as many arguments as it has parameters.
  pub in_scope : Program → ℕ → ℕ → List ℕ → Stmt → Bool
  in_scope p r n visible (Assign site x e) = knows visible e && (sees visible x || is_declared_in r (slice_get p.vars x.0))
  in_scope p r n visible (Store site x index e) = sees visible x && (knows visible index && knows visible e)
  in_scope p r n visible (Print site e) = knows visible e
  in_scope p r n visible (If' site cond _ then_part _ else_part) =
      knows visible cond && (rows_in_scope p r n visible then_part && rows_in_scope p r n visible else_part)
  in_scope p r n visible (While' site cond _ body) = knows visible cond && rows_in_scope p r n visible body
  in_scope p r n visible (Region' q site cond _ body) = knows visible cond && rows_in_scope p q n visible body
  in_scope p r n visible (Break site cond) = knows visible cond
  in_scope p r n visible (Call f line args) = nat_lt f n && (list_all (knows visible) args && (length args == length (params_in (slice_get p.functions f))))

  -- the same of several statements, one after the other
  pub rows_in_scope : {m : _} → Program → ℕ → ℕ → List ℕ → Row_of-Stmt m → Bool
  rows_in_scope p r n visible end_of-Stmt = true
  rows_in_scope p r n visible (more_of-Stmt s rest) = in_scope p r n visible s && rows_in_scope p r n (seen_behind visible s) rest

-- the same of a list
abbrev pub all_in_scope : Program → ℕ → ℕ → List ℕ → List Stmt → Bool
all_in_scope p r n visible [] = true
all_in_scope p r n visible (s ∷ rest) = in_scope p r n visible s && all_in_scope p r n (seen_behind visible s) rest

-- the parameters differ from each other and from these variables, and are locals
abbrev pub params_in_scope : Program → List ℕ → List VarId → Bool
params_in_scope p visible [] = true
params_in_scope p visible (x ∷ rest) = (not (sees visible x) && is_declared_in 0 (slice_get p.vars x.0)) && params_in_scope p (x.0 ∷ visible) rest

-- the variables that are visible behind the parameters
abbrev pub seen_behind_params : List ℕ → List VarId → List ℕ
seen_behind_params visible [] = visible
seen_behind_params visible (x ∷ rest) = seen_behind_params (x.0 ∷ visible) rest

-- the numbers of the file-scope variables, which come first
abbrev pub global_numbers : Program → List ℕ
global_numbers p = numbers_from 0 (length (globals_in p.vars))

-- the function's text names what is visible in it, and calls only the first n functions
abbrev pub function_in_scope : Program → ℕ → Function → Bool
function_in_scope p n f = params_in_scope p (global_numbers p) f.params && all_in_scope p 0 n (seen_behind_params (global_numbers p) f.params) f.body

-- each of the functions from number n on calls only earlier ones
abbrev pub functions_in_scope : Program → ℕ → List Function → Bool
functions_in_scope p n [] = true
functions_in_scope p n (f ∷ rest) = function_in_scope p n f && functions_in_scope p (suc n) rest

-- all texts of the program are in scope, and `main` may call each function
abbrev pub is_scoped : Program → Bool
is_scoped p = functions_in_scope p 0 p.functions && all_in_scope p 0 (length p.functions) (global_numbers p) p.main
