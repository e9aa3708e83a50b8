use Rattle.std.proofs.Common.{◌<◌, length, List, sym, ap, ◌∙◌, slice_get, arith}
use Rattle.dp_tree.specs.declared.Stmt.{Stmt}
use Rattle.dp_sites.proofs.RegionFinds.{first_here, first_later}
use Rattle.dp_sites.proofs.table.first_region.Goals as goal

pub returns-then-is_region : goal.returns-then-is_region
returns-then-is_region c =
    let below : c.loop-statement.statement-index < length c.args.all.now = omega arith in
    sym (first_here c.args.region c.args.all.now c.loop-statement.statement-index c.statement-item.result below c.statement-item.is (sym c.is_region.ensures
    ∙ c.if-is_region.true)) ∙ c.loop-statement.invariant

pub loop-statement-preserved : goal.loop-statement-preserved
loop-statement-preserved c =
    let below : c.loop-statement.statement-index < length c.args.all.now = omega arith in
    ap (λ (xs : List Stmt). slice_get xs 0) (sym (first_later c.args.region c.args.all.now c.loop-statement.statement-index c.statement-item.result below
    c.statement-item.is (sym c.is_region.ensures ∙ c.if-is_region.false))) ∙ c.loop-statement.invariant
