-- The variables that the sites of a region load and store.
use Rattle.std.specs.Prelude.{ℕ, ◌==◌, Bool, false, not, ◌&&◌, List, [], ◌∷◌, ◌++◌, Option, Some, None, filter, nat_lt}
use Rattle.std.specs.List.{flat_map}
use Rattle.dp_tree.specs.declared.Expr.{Expr, end_of-Expr, more_of-Expr}
use Rattle.dp_tree.specs.declared.Expr.TheVariants.{Number, Input', InputLen, Scalar, Element', Unary', Binary', And', Or'}
use Rattle.dp_tree.specs.declared.Stmt.{Stmt, Row_of-Stmt, out-Stmt}
use Rattle.dp_tree.specs.declared.Stmt.TheVariants.{Assign, Store, Print, If', While', Region', Break, Call}
use Rattle.dp_tree.specs.declared.Program.{Program}
use Rattle.dp_plan.specs.declared.Plan.{Plan}
use Rattle.dp_tree.specs.Statements.{asked, asked_in}
use Rattle.dp_tree.specs.Iteration.{is_region}
pub use Rattle.dp_plan.specs.Stage.{first_site_of, first_site, stage_of, is_par, is_replicated, is_local, is_body_local}

-- the variables that an expression may load, by its text; the input's words and their number are none
abbrev pub loaded_by : Expr → List ℕ
loaded_by (Number n) = []
loaded_by (Input' _ (more_of-Expr e end_of-Expr)) = loaded_by e
loaded_by InputLen = []
loaded_by (Scalar x) = x.0 ∷ []
loaded_by (Element' x _ (more_of-Expr e end_of-Expr)) = x.0 ∷ loaded_by e
loaded_by (Unary' op _ (more_of-Expr e end_of-Expr)) = loaded_by e
loaded_by (Binary' op _ (more_of-Expr a end_of-Expr) _ (more_of-Expr b end_of-Expr)) = loaded_by a ++ loaded_by b
loaded_by (And' _ (more_of-Expr a end_of-Expr) _ (more_of-Expr b end_of-Expr)) = loaded_by a ++ loaded_by b
loaded_by (Or' _ (more_of-Expr a end_of-Expr) _ (more_of-Expr b end_of-Expr)) = loaded_by a ++ loaded_by b

-- a site with the variables that it loads and the one that it stores, if any
pub record Access : Type 0 where
  pub site : ℕ
  pub loads : List ℕ
  pub stores : Option ℕ

-- the statement's own site
abbrev pub access_at : Stmt → List Access
access_at (Assign site x e) = record { site = site.0; loads = loaded_by e; stores = Some x.0 } ∷ []
access_at (Store site x index e) = record { site = site.0; loads = loaded_by index ++ loaded_by e; stores = Some x.0 } ∷ []
access_at (Print site e) = record { site = site.0; loads = loaded_by e; stores = None } ∷ []
access_at (If' site cond _ then_part _ else_part) = record { site = site.0; loads = loaded_by cond; stores = None } ∷ []
access_at (While' site cond _ body) = record { site = site.0; loads = loaded_by cond; stores = None } ∷ []
access_at (Region' r site cond _ body) = record { site = site.0; loads = loaded_by cond; stores = None } ∷ []
access_at (Break site cond) = record { site = site.0; loads = loaded_by cond; stores = None } ∷ []
access_at (Call f line args) = []

-- the sites of a statement, in text order
abbrev pub accesses : Stmt → List Access
accesses s = asked access_at s

-- those of several statements
abbrev pub accesses_in : {n : _} → Row_of-Stmt n → List Access
accesses_in rows = asked_in access_at rows

-- the statement is region r
abbrev pub is_region_at : ℕ → Stmt → Bool
is_region_at r s = is_region r (out-Stmt s)

-- region r among the statements of `main`
abbrev pub region_in : Program → ℕ → List Stmt
region_in p r = filter (is_region_at r) p.main

-- the plan's region
abbrev pub region_statement : Program → Plan → List Stmt
region_statement p plan = region_in p plan.region

-- the sites of the plan's region
abbrev pub region_accesses : Program → Plan → List Access
region_accesses p plan = flat_map accesses (region_statement p plan)

-- the stored variable, if any, is x
abbrev pub is_same_variable : ℕ → Option ℕ → Bool
is_same_variable x None = false
is_same_variable x (Some y) = x == y

-- the site stores x
abbrev pub stores_var : ℕ → Access → Bool
stores_var x a = is_same_variable x a.stores

-- the site stores x and is of a later stage than s
abbrev pub is_stored_after : Program → Plan → ℕ → ℕ → Access → Bool
is_stored_after p plan s x d = stores_var x d && nat_lt s (stage_of p plan d.site)

-- s is replicated, the site stores x and is of s, and x is no body local
abbrev pub is_stored_beside : Program → Plan → ℕ → ℕ → Access → Bool
is_stored_beside p plan s x d =
    stores_var x d && is_replicated plan s && (stage_of p plan d.site == s) && not (is_body_local p plan x)
