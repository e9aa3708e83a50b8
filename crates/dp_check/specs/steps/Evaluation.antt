-- What is evaluated at a site.
use Rattle.std.specs.Prelude.{Result, Ok, Err}
use Rattle.dp_base.specs.declared.SiteId.{SiteId}
use Rattle.dp_tree.specs.declared.Expr.{Expr}
use Rattle.dp_check.specs.declared.fail.CheckFail.{CheckFail}

-- the expression, without its site
abbrev pub expr_part : Result (SiteId × Expr) CheckFail → Result Expr CheckFail
expr_part (Ok found) = Ok found.1
expr_part (Err e) = Err e
