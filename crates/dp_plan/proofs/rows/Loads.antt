-- Every place of a region's text where a variable may be loaded: each is seen by the checked sites.
use Rattle.std.proofs.Common.{◌≡◌, refl, ℕ, [], ◌∷◌, filter, pos}
use Rattle.dp_base.specs.declared.BinOp.TheVariants.{Add}
use Rattle.dp_base.specs.declared.UnOp.TheVariants.{Neg}
use Rattle.dp_tree.specs.declared.VarScope.TheVariants.{Global}
use Rattle.dp_tree.specs.declared.Expr.{Expr}
use Rattle.dp_tree.specs.declared.Expr.TheVariants as tree
use Rattle.dp_tree.specs.declared.Stmt.{Stmt}
use Rattle.dp_tree.specs.declared.Stmt.TheVariants as stmt
use Rattle.dp_tree.specs.declared.Program.{Program}
use Rattle.dp_tree.proofs.Build.{tree_opened, num, var, at, bin, set, set_at, say, loop, region, one_region, scalar, array, program}
use Rattle.dp_plan.specs.declared.StageKind.TheVariants.{Seq}
use Rattle.dp_plan.specs.declared.Plan.{Plan}
use Rattle.dp_plan.specs.Checked.{is_checked}
use Rattle.dp_plan.specs.Written.{region_sites}
use Rattle.dp_plan.proofs.Plans.{plan}

abbrev x : Expr
x = var 0

abbrev one : Expr
one = num 1

-- y = e
abbrev keep : ℕ → Expr → Stmt
keep site e = set site 1 e

-- while (1) {
--   y = 1 + x; y = x && 1; y = 1 && x; y = x || 1; y = 1 || x; y = -x; y = input[x]; y = a[x]; a[x] = 1; a[1] = x; print(x);
--   if (x) { y = x; } else { y = x; } while (x) { y = x; } x = 1; y = 1;
-- }, whose sites are 1 to 19
abbrev loading : Program
loading = program (scalar 0 (pos 0) Global ∷ scalar 1 (pos 0) Global ∷ array 2 2 ∷ []) [] (one_region 1 1 19)
    (region 1 1 one (keep 2 (bin Add one x) ∷ keep 3 (tree.And x one) ∷ keep 4 (tree.And one x) ∷ keep 5 (tree.Or x one) ∷ keep 6 (tree.Or one x)
    ∷ keep 7 (tree.Unary Neg x) ∷ keep 8 (tree.Input x) ∷ keep 9 (at 2 x) ∷ set_at 10 2 x one ∷ set_at 11 2 one x ∷ say 12 x
    ∷ stmt.If (record { 0 = 13 }) x (keep 14 x ∷ []) (keep 15 x ∷ []) ∷ loop 16 x (keep 17 x ∷ []) ∷ set 18 0 one ∷ keep 19 one ∷ []) ∷ [])

-- the store of x in stage 2
abbrev loading_plan : Plan
loading_plan = plan 4096 (Seq ∷ Seq ∷ []) (1 ∷ 1 ∷ 1 ∷ 1 ∷ 1 ∷ 1 ∷ 1 ∷ 1 ∷ 1 ∷ 1 ∷ 1 ∷ 1 ∷ 1 ∷ 1 ∷ 1 ∷ 1 ∷ 1 ∷ 2 ∷ 1 ∷ []) []

loads_at_every_place : filter (is_checked loading loading_plan) (region_sites loading 1)
    ≡ 2 ∷ 3 ∷ 4 ∷ 5 ∷ 6 ∷ 7 ∷ 8 ∷ 9 ∷ 10 ∷ 11 ∷ 12 ∷ 13 ∷ 14 ∷ 15 ∷ 16 ∷ 17 ∷ []
unfolding tree_opened
loads_at_every_place = refl
