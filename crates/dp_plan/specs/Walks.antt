-- What a walk over a region's statements asks of one.
use Rattle.std.specs.Prelude.{ℕ, Bool}
use Rattle.dp_tree.specs.declared.Stmt.{Stmt}
use Rattle.dp_plan.specs.Access.{is_region_at}

-- the statement is region r
unfoldable pub is_region_of : ℕ → Stmt → Bool
is_region_of r s = is_region_at r s
