-- What the theorems ask of an inlined program and of a plan of one of its regions, each as one test.
use Rattle.std.specs.Prelude.{ℕ, ◌+◌, ◌-◌, slice_get, ◌==◌, Bool, true, false, not, ◌&&◌, ◌||◌, List, [], ◌∷◌, length, Option, Some, None, nat_lt, nat_le}
use Rattle.std.specs.List.{list_all, flat_map}
use Rattle.dp_tree.specs.declared.Stmt.{Stmt, out-Stmt}
use Rattle.dp_tree.specs.declared.Stmt.TheOpen.{Stmt-F, Region}
use Rattle.dp_tree.specs.declared.VarInfo.{VarInfo}
use Rattle.dp_tree.specs.declared.RegionInfo.{RegionInfo}
use Rattle.dp_tree.specs.declared.Program.{Program}
use Rattle.dp_plan.specs.declared.Plan.{Plan}
use Rattle.dp_tree.specs.Eval.{cell_count}
use Rattle.dp_tree.specs.Step.{is_local_of}
use Rattle.dp_plan.specs.Access.{Access, accesses, first_site, stage_of, is_replicated, is_region_at, region_in, region_statement, region_accesses}
use Rattle.dp_tree.specs.Numbering.{numbers_from}
use Rattle.dp_semantics.specs.Nesting.{well_nested, is_free}

-- The variables have their cells one after the other, from k on: at least one each, and a body local of region r exactly one.
abbrev pub cells_in_order : ℕ → ℕ → List VarInfo → Bool
cells_in_order r k [] = true
cells_in_order r k (x ∷ rest) =
    ((x.first.0 == k) && (nat_lt 0 x.length && (not (is_local_of r x.scope) || (x.length == 1)))) && cells_in_order r (k + x.length) rest

-- the variable has a cell
abbrev pub has_cell : Program → ℕ → Bool
has_cell p x = nat_lt 0 (cell_count p (record { 0 = x }))

-- the stored variable, if any, has a cell
abbrev pub stores_known : Program → Option ℕ → Bool
stores_known p None = true
stores_known p (Some x) = has_cell p x

-- the variables that the site names are the program's, and the site has one of the plan's stages
abbrev pub access_known : Program → Plan → Access → Bool
access_known p plan a =
    list_all (has_cell p) a.loads && (stores_known p a.stores && (nat_lt 0 (stage_of p plan a.site) && nat_le (stage_of p plan a.site) (length plan.stages)))

-- the site isn't the condition
abbrev pub is_inner_access : Program → Plan → Access → Bool
is_inner_access p plan a = not (a.site == first_site p plan)

-- the region's condition is its first site, alone with that number, and of stage 1, and its body is well nested
abbrev pub region_fits : Program → Plan → Stmt-F Stmt → Bool
region_fits p plan (Region q site cond body) =
    (q == plan.region) && ((first_site p plan == site.0) && ((stage_of p plan (first_site p plan) == 1)
    && (list_all (well_nested p plan) body && list_all (is_inner_access p plan) (flat_map accesses body))))
region_fits p plan _ = false

-- the region stands once among the statements of `main`
abbrev pub one_region : Program → Plan → List Stmt → Bool
one_region p plan [] = false
one_region p plan (s ∷ []) = region_fits p plan (out-Stmt s)
one_region p plan (s ∷ t ∷ rest) = false

-- the statement is region r, or doesn't have it inside
abbrev pub region_alone : ℕ → Stmt → Bool
region_alone r s = is_region_at r s || is_free r s

-- stage s and the next one aren't both replicated
abbrev pub kinds_apart : Plan → ℕ → Bool
kinds_apart plan s = not (is_replicated plan s && is_replicated plan (s + 1))

-- the first stage is sequential, and no two neighbours are replicated
abbrev pub kinds_fit : Plan → Bool
kinds_fit plan = not (is_replicated plan 1) && list_all (kinds_apart plan) (numbers_from 1 (length plan.stages))

-- an inlined program's variables and region, and a plan that keeps the rules
abbrev pub fits_plan : Program → Plan → Bool
fits_plan p plan =
    cells_in_order plan.region 0 p.vars && (list_all (access_known p plan) (region_accesses p plan)
    && (one_region p plan (region_statement p plan) && (list_all (region_alone plan.region) p.main && kinds_fit plan)))

-- the site has one of the numbers of a region's sites
abbrev pub lies_between : ℕ → Option RegionInfo → Bool
lies_between site None = false
lies_between site (Some info) = nat_le info.first.0 site && nat_le site info.last.0

-- the access's site is one of region r's numbers
abbrev pub is_numbered : Program → ℕ → Access → Bool
is_numbered p r a = lies_between a.site (slice_get p.regions (r - 1))

-- there is exactly one
abbrev pub is_single : List Stmt → Bool
is_single [] = false
is_single (s ∷ []) = true
is_single (s ∷ t ∷ rest) = false

-- Region r stands once among the statements of `main`, no other one has it inside, and its sites have the region's numbers.
abbrev pub stands_alone : Program → ℕ → Bool
stands_alone p r = is_single (region_in p r) && (list_all (region_alone r) p.main && list_all (is_numbered p r) (flat_map accesses (region_in p r)))
