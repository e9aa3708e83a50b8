-- Short forms for the trees of test programs.
use Rattle.std.proofs.Common.{ℕ, Bool, false, true, List, [], ◌∷◌, ℤ, pos}
use Rattle.dp_base.specs.declared.BinOp.{BinOp}
use Rattle.dp_base.specs.declared.VarId.{VarId}
use Rattle.dp_tree.specs.declared.Expr.{Expr}
use Rattle.dp_tree.specs.declared.Expr.TheVariants as tree
use Rattle.dp_tree.specs.declared.Stmt.{Stmt}
use Rattle.dp_tree.specs.declared.Stmt.TheVariants as stmt
use Rattle.dp_tree.specs.declared.VarInfo.{VarInfo}
use Rattle.dp_tree.specs.declared.VarScope.{VarScope}
use Rattle.dp_tree.specs.declared.VarScope.TheVariants.{Global}
use Rattle.dp_tree.specs.declared.SiteInfo.{SiteInfo}
use Rattle.dp_tree.specs.declared.SiteKind.{SiteKind}
use Rattle.dp_tree.specs.declared.RegionInfo.{RegionInfo}
use Rattle.dp_tree.specs.declared.Assume.{Assume}
use Rattle.dp_tree.specs.declared.Function.{Function}
use Rattle.dp_tree.specs.declared.Program.{Program}

abbrev pub num : ℕ → Expr
num n = tree.Number (pos n)

abbrev pub var : ℕ → Expr
var x = tree.Scalar (record { 0 = x })

abbrev pub at : ℕ → Expr → Expr
at x e = tree.Element (record { 0 = x }) e

abbrev pub bin : BinOp → Expr → Expr → Expr
bin o a b = tree.Binary o a b

abbrev pub set : ℕ → ℕ → Expr → Stmt
set site x e = stmt.Assign (record { 0 = site }) (record { 0 = x }) e

abbrev pub set_at : ℕ → ℕ → Expr → Expr → Stmt
set_at site x i e = stmt.Store (record { 0 = site }) (record { 0 = x }) i e

abbrev pub say : ℕ → Expr → Stmt
say site e = stmt.Print (record { 0 = site }) e

abbrev pub when : ℕ → Expr → List Stmt → Stmt
when site e body = stmt.If (record { 0 = site }) e body []

abbrev pub loop : ℕ → Expr → List Stmt → Stmt
loop site e body = stmt.While (record { 0 = site }) e body

abbrev pub region : ℕ → ℕ → Expr → List Stmt → Stmt
region r site e body = stmt.Region r (record { 0 = site }) e body

-- the function, the line of its name, and the arguments
abbrev pub call : ℕ → ℕ → List Expr → Stmt
call f line args = stmt.Call f line args

-- a scalar by its cell, its start value and where it is declared
abbrev pub scalar : ℕ → ℤ → VarScope → VarInfo
scalar c z scope = record { name = []; first = record { 0 = c }; length = 1; array = false; start = z; scope = scope }

-- an array by its first cell and its length
abbrev pub array : ℕ → ℕ → VarInfo
array c n = record { name = []; first = record { 0 = c }; length = n; array = true; start = pos 0; scope = Global }

-- a site by its line, its kind and its region
abbrev pub site : ℕ → SiteKind → ℕ → SiteInfo
site line k r = record { line = line; kind = k; region = r }

-- one region, by its line, its first and its last site
abbrev pub one_region : ℕ → ℕ → ℕ → List RegionInfo
one_region line first last = record { line = line; first = record { 0 = first }; last = record { 0 = last } } ∷ []

abbrev variables : List ℕ → List VarId
variables [] = []
variables (x ∷ xs) = record { 0 = x } ∷ variables xs

-- a function by its parameters and its body
abbrev pub function : List ℕ → List Stmt → Function
function params body = record { params = variables params; body = body }

abbrev pub program : List VarInfo → List SiteInfo → List RegionInfo → List Stmt → Program
program vars sites regions main = record { vars = vars; sites = sites; regions = regions; functions = []; main = main }

abbrev pub with_functions : List Function → Program → Program
with_functions functions p = record p { functions = functions }

abbrev pub assume : ℕ → Bool → Assume
assume n taken = record { site = record { 0 = n }; taken = taken }

-- what opens where a meaning is computed on a tree: `unfolding tree_opened`
unfoldable pub tree_opened : Unit {0}
unfolding
    Rattle.dp_tree.specs.Trace.run_of Rattle.dp_tree.specs.Eval.eval Rattle.dp_base.specs.Arithmetic.binary_result Rattle.dp_base.specs.Arithmetic.unary_result
    Rattle.dp_base.specs.Arithmetic.is_zero Rattle.dp_base.specs.Arithmetic.number_of
    Rattle.dp_tree.specs.declared.Stmt.TheViews.out-Stmt denote.Hole.Carrier.out
    Rattle.dp_tree.specs.declared.Expr.TheBlock.shape-the_row-Expr-0 Rattle.dp_tree.specs.declared.Expr.TheBlock.hidden-the_row-Expr-0
    Rattle.dp_tree.specs.declared.Stmt.TheBlock.shape-the_row-Stmt-0 Rattle.dp_tree.specs.declared.Stmt.TheBlock.hidden-the_row-Stmt-0
    denote.Hole.Carrier.hidden Rattle.dp_tree.specs.declared.Stmt.TheBlock.shown-the_row-Stmt-0 denote.Hole.Carrier.shown
tree_opened = tt
