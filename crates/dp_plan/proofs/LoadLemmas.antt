-- What opens where a tree is made, and a test of a joined list.
use Rattle.std.proofs.Common.{◌≡◌, refl, sym, ◌∙◌, ap, Bool, ◌||◌, List, [], ◌∷◌, ◌++◌}
use Rattle.std.specs.List.{list_any}
use Rattle.std.proofs.Math.Bool.{or_assoc}

-- what opens where a tree is made
unfoldable pub opened : Unit {0}
unfolding
    Rattle.dp_tree.specs.declared.Stmt.TheBlock.shape-the_row-Stmt-0 Rattle.dp_tree.specs.declared.Stmt.TheBlock.hidden-the_row-Stmt-0
    Rattle.dp_tree.specs.declared.Expr.TheBlock.shape-the_row-Expr-0 Rattle.dp_tree.specs.declared.Expr.TheBlock.hidden-the_row-Expr-0
    denote.Hole.Carrier.hidden
opened = tt

pub list_any-append : {A : Type 0} (test : A → Bool) (xs ys : List A) → list_any test (xs ++ ys) ≡ (list_any test xs || list_any test ys)
list_any-append test [] ys = refl
list_any-append test (x ∷ xs) ys = ap (λ b. test x || b) (list_any-append test xs ys) ∙ sym (or_assoc (test x) (list_any test xs) (list_any test ys))
