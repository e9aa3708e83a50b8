-- The `if` and `while` statements of a region, each with the sites inside it.
use Rattle.std.specs.Prelude.{ℕ, List, [], ◌∷◌, ◌++◌, map}
use Rattle.std.specs.List.{flat_map}
use Rattle.dp_tree.specs.declared.Stmt.{Stmt, Row_of-Stmt}
use Rattle.dp_tree.specs.declared.Stmt.TheVariants.{If', While'}
use Rattle.dp_tree.specs.declared.Program.{Program}
pub use Rattle.dp_plan.specs.declared.Enclosing.{Enclosing}
use Rattle.dp_tree.specs.Statements.{asked, asked_in}
use Rattle.dp_plan.specs.Access.{accesses_in, region_in}
use Rattle.dp_plan.specs.Written.{access_site}

-- the sites of several statements
abbrev pub sites_of : {n : _} → Row_of-Stmt n → List ℕ
sites_of rows = map access_site (accesses_in rows)

-- the statement, where it is an `if`
abbrev pub if_at : Stmt → List Enclosing
if_at (If' site cond _ then_part _ else_part) = record { site = site.0; inside = sites_of then_part ++ sites_of else_part } ∷ []
if_at _ = []

-- the `if` statements, in text order
abbrev pub ifs : Stmt → List Enclosing
ifs s = asked if_at s

-- those of several statements
abbrev pub ifs_in : {n : _} → Row_of-Stmt n → List Enclosing
ifs_in rows = asked_in if_at rows

-- the statement, where it is an inner `while`; a region is none
abbrev pub inner_while_at : Stmt → List Enclosing
inner_while_at (While' site cond _ body) = record { site = site.0; inside = sites_of body } ∷ []
inner_while_at _ = []

-- the inner `while` statements, in text order
abbrev pub inner_whiles : Stmt → List Enclosing
inner_whiles s = asked inner_while_at s

-- those of several statements
abbrev pub inner_whiles_in : {n : _} → Row_of-Stmt n → List Enclosing
inner_whiles_in rows = asked_in inner_while_at rows

-- those of region r
abbrev pub region_ifs : Program → ℕ → List Enclosing
region_ifs p r = flat_map ifs (region_in p r)

-- region r's inner `while` statements
abbrev pub region_inner_whiles : Program → ℕ → List Enclosing
region_inner_whiles p r = flat_map inner_whiles (region_in p r)
