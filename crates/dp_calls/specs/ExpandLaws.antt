-- What expansion amounts to: no call is left, and a program without calls keeps its text but for its numbers.
use Rattle.std.specs.Prelude.{◌≡◌, false, List, [], ◌∷◌, map}
use Rattle.std.specs.List.{list_any}
use Rattle.dp_base.specs.declared.SiteId.{SiteId}
use Rattle.dp_base.specs.declared.VarId.{VarId}
use Rattle.dp_tree.specs.declared.Expr.{Expr, end_of-Expr, more_of-Expr}
use Rattle.dp_tree.specs.declared.Expr.TheVariants.{Number, Input, Input', InputLen, Scalar, Element, Element', Unary, Unary', Binary, Binary', And, And', Or}
use Rattle.dp_tree.specs.declared.Expr.TheVariants.{Or'}
use Rattle.dp_tree.specs.declared.Stmt.{Stmt, Row_of-Stmt, end_of-Stmt, more_of-Stmt}
use Rattle.dp_tree.specs.declared.Stmt.TheVariants.{Assign, Store, Print, If, If', While, While', Region, Region', Break, Call}
use Rattle.dp_tree.specs.declared.Program.{Program}
use Rattle.dp_tree.specs.Inlined.{has_call}
use Rattle.dp_calls.specs.Expand.{expand}

-- in place of every number of a site
abbrev any_site : SiteId
any_site = record { 0 = 0 }

-- in place of every number of a variable
abbrev any_variable : VarId
any_variable = record { 0 = 0 }

-- the expression with every variable's number erased
abbrev pub unnumbered : Expr → Expr
unnumbered (Number n) = Number n
unnumbered (Input' _ (more_of-Expr e end_of-Expr)) = Input (unnumbered e)
unnumbered InputLen = InputLen
unnumbered (Scalar x) = Scalar any_variable
unnumbered (Element' x _ (more_of-Expr e end_of-Expr)) = Element any_variable (unnumbered e)
unnumbered (Unary' op _ (more_of-Expr e end_of-Expr)) = Unary op (unnumbered e)
unnumbered (Binary' op _ (more_of-Expr a end_of-Expr) _ (more_of-Expr b end_of-Expr)) = Binary op (unnumbered a) (unnumbered b)
unnumbered (And' _ (more_of-Expr a end_of-Expr) _ (more_of-Expr b end_of-Expr)) = And (unnumbered a) (unnumbered b)
unnumbered (Or' _ (more_of-Expr a end_of-Expr) _ (more_of-Expr b end_of-Expr)) = Or (unnumbered a) (unnumbered b)

abbrev mutual
  -- the statement with every site's and variable's number erased
  pub erased : Stmt → Stmt
  erased (Assign site x e) = Assign any_site any_variable (unnumbered e)
  erased (Store site x index e) = Store any_site any_variable (unnumbered index) (unnumbered e)
  erased (Print site e) = Print any_site (unnumbered e)
  erased (If' site cond _ then_part _ else_part) = If any_site (unnumbered cond) (erased_in then_part) (erased_in else_part)
  erased (While' site cond _ body) = While any_site (unnumbered cond) (erased_in body)
  erased (Region' r site cond _ body) = Region r any_site (unnumbered cond) (erased_in body)
  erased (Break site cond) = Break any_site (unnumbered cond)
  erased (Call f line args) = Call f line args

  -- the same of several statements
  pub erased_in : {n : _} → Row_of-Stmt n → List Stmt
  erased_in end_of-Stmt = []
  erased_in (more_of-Stmt s rest) = erased s ∷ erased_in rest

-- No call is left in an expanded program.
abbrev pub LeavesNoCall : Program → Type 0
LeavesNoCall p = list_any has_call (expand p).main ≡ false

-- A program without calls is its own expansion up to the numbers of its sites and variables.
abbrev pub KeepsText : Program → Type 0
KeepsText p = list_any has_call p.main ≡ false → map erased (expand p).main ≡ map erased p.main
