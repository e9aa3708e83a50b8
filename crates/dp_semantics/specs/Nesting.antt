-- How a plan goes with the nesting of a region's body.
use Rattle.std.specs.Prelude.{ℕ, ◌==◌, Bool, true, false, not, ◌||◌, List, ◌++◌, is_some, nat_le}
use Rattle.std.specs.List.{list_all}
use Rattle.dp_tree.specs.declared.Stmt.{Stmt, Row_of-Stmt}
use Rattle.dp_tree.specs.declared.Stmt.TheVariants.{If', While', Region', Call}
use Rattle.dp_tree.specs.declared.Program.{Program}
use Rattle.dp_tree.specs.Statements.{everywhere, everywhere_in}
use Rattle.dp_plan.specs.declared.Plan.{Plan}
use Rattle.dp_plan.specs.Access.{Access, accesses_in, stage_of}
use Rattle.dp_semantics.specs.Project.{assumed_in}

-- no site of these is in an earlier stage than this one
abbrev pub none_earlier : Program → Plan → ℕ → List Access → Bool
none_earlier p plan site inside = list_all (λ a. nat_le (stage_of p plan site) (stage_of p plan a.site)) inside

-- an inner `while` stands in no later stage than a site inside it, nor does an `if` that isn't assumed; a region and a call stand nowhere inside
abbrev pub nests_at : Program → Plan → Stmt → Bool
nests_at p plan (If' site cond _ then_part _ else_part) =
    is_some (assumed_in plan.assume site.0) || none_earlier p plan site.0 (accesses_in then_part ++ accesses_in else_part)
nests_at p plan (While' site cond _ body) = none_earlier p plan site.0 (accesses_in body)
nests_at p plan (Region' r site cond _ body) = false
nests_at p plan (Call f line args) = false
nests_at p plan _ = true

-- the same of a statement and of those inside it
abbrev pub well_nested : Program → Plan → Stmt → Bool
well_nested p plan s = everywhere (nests_at p plan) s

-- .. and of several statements
abbrev pub well_nested_in : {n : _} → Program → Plan → Row_of-Stmt n → Bool
well_nested_in p plan rows = everywhere_in (nests_at p plan) rows

-- the statement isn't region r
abbrev pub is_other : ℕ → Stmt → Bool
is_other r (Region' q site cond _ body) = not (q == r)
is_other r _ = true

-- region r doesn't stand in the statement
abbrev pub is_free : ℕ → Stmt → Bool
is_free r s = everywhere (is_other r) s

-- .. nor in one of several
abbrev pub is_free_in : {n : _} → ℕ → Row_of-Stmt n → Bool
is_free_in r rows = everywhere_in (is_other r) rows
