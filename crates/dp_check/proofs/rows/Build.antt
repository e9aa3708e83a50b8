-- Short forms for trees with names.
use Rattle.std.proofs.Common.{ℕ, List, pos}
use Rattle.dp_base.specs.declared.BinOp.TheVariants as op
use Rattle.dp_tree.specs.declared.raw.Name.{Name}
use Rattle.dp_tree.specs.declared.raw.RawExpr.{RawExpr}
use Rattle.dp_tree.specs.declared.raw.RawExpr.TheVariants as expr
use Rattle.dp_tree.specs.declared.raw.RawStmt.{RawStmt}
use Rattle.dp_tree.specs.declared.raw.RawStmt.TheVariants as stmt

-- a name on a line
abbrev pub on : ℕ → List ℕ → Name
on line text = record { text = text; line = line }

abbrev pub var : ℕ → List ℕ → RawExpr
var line text = expr.Scalar (on line text)

abbrev pub num : ℕ → RawExpr
num n = expr.Number (pos n)

abbrev pub add : RawExpr → RawExpr → RawExpr
add a b = expr.Binary op.Add a b

-- a declaration whose `int` stands on one line and whose name on another
abbrev pub declare : ℕ → ℕ → List ℕ → RawExpr → RawStmt
declare line of_name text e = stmt.Declare line (on of_name text) e

abbrev pub set : ℕ → List ℕ → RawExpr → RawStmt
set line text e = stmt.Assign (on line text) e

abbrev pub say : ℕ → RawExpr → RawStmt
say line e = stmt.Print line e

-- what opens where a tree with names is read: `unfolding names_opened`
unfoldable pub names_opened : Unit {0}
unfolding
    Rattle.dp_check.specs.CheckAnswer.check_answer
    Rattle.dp_tree.specs.declared.raw.RawStmt.TheViews.out-RawStmt denote.Hole.Carrier.out
    Rattle.dp_tree.specs.declared.raw.RawExpr.TheBlock.shape-the_row-RawExpr-0 Rattle.dp_tree.specs.declared.raw.RawExpr.TheBlock.hidden-the_row-RawExpr-0
    Rattle.dp_tree.specs.declared.raw.RawStmt.TheBlock.shape-the_row-RawStmt-0 Rattle.dp_tree.specs.declared.raw.RawStmt.TheBlock.hidden-the_row-RawStmt-0
    denote.Hole.Carrier.hidden Rattle.dp_tree.specs.declared.raw.RawStmt.TheBlock.shown-the_row-RawStmt-0 denote.Hole.Carrier.shown
names_opened = tt
