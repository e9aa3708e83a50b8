-- The stores because of which a plan has sites checked: a site that is checked has at least one.
use Rattle.std.specs.Prelude.{ℕ, Bool, true, false, not, ◌&&◌, ◌||◌, List, [], ◌∷◌}
use Rattle.std.specs.List.{list_any, flat_map}
use Rattle.dp_tree.specs.declared.Program.{Program}
use Rattle.dp_plan.specs.declared.Plan.{Plan}
use Rattle.dp_plan.specs.Access.{Access, is_stored_after, is_stored_beside, region_accesses, stage_of}
use Rattle.dp_plan.specs.Checked.{is_apart, is_apart_between}
pub use Rattle.dp_sites.specs.declared.compared.Compared.{Compared}

-- because of the store d, what site u of stage s loads of x may differ from what the source has: one store of `may_differ`
abbrev pub differs_at : Program → Plan → ℕ → ℕ → ℕ → Access → Bool
differs_at p plan s u x d =
    (is_stored_after p plan s x d && not (is_apart p plan u d.site)) || (is_stored_beside p plan s x d && not (is_apart_between p plan u d.site))

-- .. of one of these variables
abbrev pub differs_for : Program → Plan → ℕ → List ℕ → Access → Bool
differs_for p plan u loads d = list_any (λ (x : ℕ). differs_at p plan (stage_of p plan u) u x d) loads

abbrev pub when_compared : Bool → ℕ → ℕ → List Compared
when_compared true u d = record { site = record { 0 = u }; store = record { 0 = d } } ∷ []
when_compared false u d = []

-- the loads at u are compared with the source's because of the store d
abbrev pub compared_for : Program → Plan → Access → Access → List Compared
compared_for p plan u d = when_compared (differs_for p plan u.site u.loads d) u.site d.site

-- .. because of these stores
abbrev pub compared_with : Program → Plan → List Access → Access → List Compared
compared_with p plan all u = flat_map (compared_for p plan u) all

-- each checked site of the plan's region with each store because of which it is checked, in text order of the site, and then of the store
abbrev pub compared_stores : Program → Plan → List Compared
compared_stores p plan = flat_map (compared_with p plan (region_accesses p plan)) (region_accesses p plan)
