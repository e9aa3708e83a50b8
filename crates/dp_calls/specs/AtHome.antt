-- Where a program without calls stores into the locals of its regions' bodies, and which numbers stand in a program's text.
use Rattle.std.specs.Prelude.{ℕ, ◌≡◌, ◌==◌, Bool, true, ◌&&◌, Option, Some, None, List, slice_get}
use Rattle.std.specs.List.{list_all}
use Rattle.dp_base.specs.Arithmetic.{fits}
use Rattle.dp_tree.specs.declared.Expr.{Expr, end_of-Expr, more_of-Expr}
use Rattle.dp_tree.specs.declared.Expr.TheVariants.{Number, Input', InputLen, Scalar, Element', Unary', Binary', And', Or'}
use Rattle.dp_tree.specs.declared.Stmt.{Stmt}
use Rattle.dp_tree.specs.declared.Stmt.TheVariants.{Assign, Store, Print, If', While', Region', Break, Call}
use Rattle.dp_tree.specs.declared.VarInfo.{VarInfo}
use Rattle.dp_tree.specs.declared.VarScope.{VarScope}
use Rattle.dp_tree.specs.declared.VarScope.TheVariants.{Global, Outer, Body}
use Rattle.dp_tree.specs.declared.Function.{Function}
use Rattle.dp_tree.specs.declared.Program.{Program}
use Rattle.dp_tree.specs.Statements.{everywhere}
use Rattle.dp_calls.specs.Expand.{expand}

-- a variable of this scope isn't one of a region's body, or it is one of region r's; outside all regions r is 0
abbrev pub is_home : ℕ → VarScope → Bool
is_home r Global = true
is_home r Outer = true
is_home r (Body q) = q == r

-- the same of an entry of the table
abbrev pub is_home_at : ℕ → Option VarInfo → Bool
is_home_at r None = true
is_home_at r (Some x) = is_home r x.scope

-- what the statement's own site stores into is at home in region r
abbrev pub stores_home : List VarInfo → ℕ → Stmt → Bool
stores_home vars r (Assign site x e) = is_home_at r (slice_get vars x.0)
stores_home vars r (Store site x index e) = is_home_at r (slice_get vars x.0)
stores_home vars r _ = true

-- the region that a statement at the top of `main` is, and 0 for any other
abbrev pub region_at_top : Stmt → ℕ
region_at_top (Region' r site cond _ body) = r
region_at_top _ = 0

-- a local of a region's body is stored in its own region alone
abbrev pub stores_home_at_top : List VarInfo → Stmt → Bool
stores_home_at_top vars s = everywhere (stores_home vars (region_at_top s)) s

abbrev pub stores_at_home : Program → Bool
stores_at_home p = list_all (stores_home_at_top p.vars) p.main

-- the numbers that stand in the expression are numbers of 64 bits
abbrev pub expr_fits : Expr → Bool
expr_fits (Number z) = fits z
expr_fits (Input' _ (more_of-Expr e end_of-Expr)) = expr_fits e
expr_fits InputLen = true
expr_fits (Scalar x) = true
expr_fits (Element' x _ (more_of-Expr e end_of-Expr)) = expr_fits e
expr_fits (Unary' op _ (more_of-Expr a end_of-Expr)) = expr_fits a
expr_fits (Binary' op _ (more_of-Expr a end_of-Expr) _ (more_of-Expr b end_of-Expr)) = expr_fits a && expr_fits b
expr_fits (And' _ (more_of-Expr a end_of-Expr) _ (more_of-Expr b end_of-Expr)) = expr_fits a && expr_fits b
expr_fits (Or' _ (more_of-Expr a end_of-Expr) _ (more_of-Expr b end_of-Expr)) = expr_fits a && expr_fits b

-- the same of what the statement's own site evaluates
abbrev pub site_fits : Stmt → Bool
site_fits (Assign site x e) = expr_fits e
site_fits (Store site x index e) = expr_fits index && expr_fits e
site_fits (Print site e) = expr_fits e
site_fits (If' site cond _ then_part _ else_part) = expr_fits cond
site_fits (While' site cond _ body) = expr_fits cond
site_fits (Region' r site cond _ body) = expr_fits cond
site_fits (Break site cond) = expr_fits cond
site_fits (Call f line args) = list_all expr_fits args

-- a variable starts with a number of 64 bits
abbrev pub start_fits : VarInfo → Bool
start_fits x = fits x.start

-- all numbers of the program's text are numbers of 64 bits
abbrev pub numbers_fit : Program → Bool
numbers_fit p = list_all start_fits p.vars && list_all (everywhere site_fits) p.main

-- the same of a function's text
abbrev pub body_fits : Function → Bool
body_fits f = list_all (everywhere site_fits) f.body

-- the same of a program with functions
abbrev pub all_numbers_fit : Program → Bool
all_numbers_fit p = numbers_fit p && list_all body_fits p.functions

-- expansion brings no other numbers
abbrev pub KeepsNumbersSmall : Program → Type 0
KeepsNumbersSmall p = all_numbers_fit p ≡ true → numbers_fit (expand p) ≡ true
