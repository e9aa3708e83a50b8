-- The statements inside a statement, as a list.
use Rattle.std.proofs.Common.{◌≡◌, refl, ap, ◌∙◌, List, ◌∷◌}
use Rattle.dp_tree.specs.declared.Stmt.{Stmt, Row_of-Stmt, end_of-Stmt, more_of-Stmt, items-the_row-Stmt, items_shown-the_row-Stmt-0}
use Rattle.dp_tree.specs.Statements.{listed}
use Rattle.dp_tree.specs.declared.Stmt.TheBlock.{shown-the_row-Stmt-0}

items_listed : {n : _} (rows : Row_of-Stmt n) → items-the_row-Stmt _ rows ≡ listed rows
items_listed end_of-Stmt = refl
items_listed (more_of-Stmt s rest) = ap (λ (xs : List Stmt). s ∷ xs) (items_listed rest)

pub shown_listed : (shape : _) (rows : Row_of-Stmt _) → shown-the_row-Stmt-0 shape rows ≡ listed rows
shown_listed shape rows = items_shown-the_row-Stmt-0 shape rows ∙ items_listed rows
