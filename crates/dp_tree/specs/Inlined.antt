-- What is so of every inlined program, and all that is asked of one: no call is left, everything is numbered in text order,
-- the tables say what stands in the text, and no limit of the language is passed.
use Rattle.std.specs.Prelude.{ℕ, ◌≡◌, ◌≤◌, Bool, true, false, ◌&&◌, ◌||◌, [], length, map, nat_lt}
use Rattle.std.specs.List.{list_all, list_any}
use Rattle.dp_base.specs.declared.limits.TheConstants.{INLINED_SIZE}
use Rattle.dp_tree.specs.declared.Expr.{Expr, end_of-Expr, more_of-Expr}
use Rattle.dp_tree.specs.declared.Expr.TheVariants.{Number, Input', InputLen, Scalar, Element', Unary', Binary', And', Or'}
use Rattle.dp_tree.specs.declared.Stmt.{Stmt, Row_of-Stmt, end_of-Stmt, more_of-Stmt}
use Rattle.dp_tree.specs.declared.Stmt.TheVariants.{Assign, Store, Print, If', While', Region', Break, Call}
use Rattle.dp_tree.specs.declared.Program.{Program}
use Rattle.dp_tree.specs.Statements.{everywhere, everywhere_in}
use Rattle.dp_tree.specs.Layout.{globals_first, lies_in_order}
use Rattle.dp_tree.specs.Numbering.{site_numbers_all, numbers_from, regions_in_order, regions_listed, is_small_region}
use Rattle.dp_tree.specs.SiteTable.{role_of, site_roles_all}

abbrev mutual
  -- a call stands in the statement
  pub has_call : Stmt → Bool
  has_call (Assign site x e) = false
  has_call (Store site x index e) = false
  has_call (Print site e) = false
  has_call (If' site cond _ then_part _ else_part) = has_call_in then_part || has_call_in else_part
  has_call (While' site cond _ body) = has_call_in body
  has_call (Region' r site cond _ body) = has_call_in body
  has_call (Break site cond) = false
  has_call (Call f line args) = true

  -- a call stands in one of them
  pub has_call_in : {n : _} → Row_of-Stmt n → Bool
  has_call_in end_of-Stmt = false
  has_call_in (more_of-Stmt s rest) = has_call s || has_call_in rest

-- the variables that the expression names are among the first n
abbrev pub expr_within : ℕ → Expr → Bool
expr_within n (Number z) = true
expr_within n (Input' _ (more_of-Expr e end_of-Expr)) = expr_within n e
expr_within n InputLen = true
expr_within n (Scalar x) = nat_lt x.0 n
expr_within n (Element' x _ (more_of-Expr e end_of-Expr)) = nat_lt x.0 n && expr_within n e
expr_within n (Unary' op _ (more_of-Expr a end_of-Expr)) = expr_within n a
expr_within n (Binary' op _ (more_of-Expr a end_of-Expr) _ (more_of-Expr b end_of-Expr)) = expr_within n a && expr_within n b
expr_within n (And' _ (more_of-Expr a end_of-Expr) _ (more_of-Expr b end_of-Expr)) = expr_within n a && expr_within n b
expr_within n (Or' _ (more_of-Expr a end_of-Expr) _ (more_of-Expr b end_of-Expr)) = expr_within n a && expr_within n b

-- the variables that the statement's own site names are among the first n
abbrev pub names_within : ℕ → Stmt → Bool
names_within n (Assign site x e) = nat_lt x.0 n && expr_within n e
names_within n (Store site x index e) = nat_lt x.0 n && (expr_within n index && expr_within n e)
names_within n (Print site e) = expr_within n e
names_within n (If' site cond _ then_part _ else_part) = expr_within n cond
names_within n (While' site cond _ body) = expr_within n cond
names_within n (Region' r site cond _ body) = expr_within n cond
names_within n (Break site cond) = expr_within n cond
names_within n (Call f line args) = list_all (expr_within n) args

-- the variables that the statement names are among the first n
abbrev pub stmt_within : ℕ → Stmt → Bool
stmt_within n s = everywhere (names_within n) s

-- the same of several statements
abbrev pub rows_within : {m : _} → ℕ → Row_of-Stmt m → Bool
rows_within n rows = everywhere_in (names_within n) rows

pub record IsInlined (p : Program) : Type 0 where
  -- the file-scope variables come first, and the cells of all variables one after the other
  pub globals : globals_first p.vars ≡ true
  pub cells : lies_in_order 0 p.vars ≡ true
  -- each variable that the text names is one of the table
  pub named : list_all (stmt_within (length p.vars)) p.main ≡ true
  -- no function and no call is left
  pub functions : p.functions ≡ []
  pub calls : list_any has_call p.main ≡ false
  -- sites are numbered in text order
  pub sites : site_numbers_all p.main ≡ numbers_from 1 (length p.sites)
  -- .. and the table has the kind and the region of each
  pub roles : map role_of p.sites ≡ site_roles_all 0 p.main
  -- regions stand at the top of `main` alone, numbered in text order, and have their sites in the table
  pub regions : regions_in_order 1 p.main ≡ true
  pub table : regions_listed p.main p.regions ≡ true
  -- neither the program nor a region has too many of them
  pub few : length p.sites ≤ INLINED_SIZE
  pub few_each : list_all is_small_region p.regions ≡ true
