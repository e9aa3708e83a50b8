-- What opens where a tree is made.
use Rattle.std.proofs.Common.{}

unfoldable pub opened : Unit {0}
unfolding
    Rattle.dp_tree.specs.declared.Stmt.TheBlock.shape-the_row-Stmt-0 Rattle.dp_tree.specs.declared.Stmt.TheBlock.hidden-the_row-Stmt-0
    Rattle.dp_tree.specs.declared.Expr.TheBlock.shape-the_row-Expr-0 Rattle.dp_tree.specs.declared.Expr.TheBlock.hidden-the_row-Expr-0
    denote.Hole.Carrier.hidden
opened = tt
