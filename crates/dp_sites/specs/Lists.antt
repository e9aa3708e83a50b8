-- What a walk over statements gives, in text order.
use Rattle.std.specs.Prelude.{ℕ, List, map, filter}
use Rattle.std.specs.List.{flat_map}
use Rattle.dp_tree.specs.declared.Stmt.{Stmt}
use Rattle.dp_tree.specs.Statements.{asked}
use Rattle.dp_plan.specs.Access.{accesses, is_region_at}
use Rattle.dp_plan.specs.Written.{access_site}

-- the sites of a statement
unfoldable pub site_list : Stmt → List ℕ
site_list s = map access_site (accesses s)

-- those of several statements
unfoldable pub site_lists : List Stmt → List ℕ
site_lists all = map access_site (flat_map accesses all)

-- what a question gives of region r among the statements
abbrev pub asked_in_region : {X : Type 0} → (Stmt → List X) → ℕ → List Stmt → List X
asked_in_region ask r all = flat_map (asked ask) (filter (is_region_at r) all)
