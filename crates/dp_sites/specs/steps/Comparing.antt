-- The stores because of which sites are checked, as the code finds them.
use Rattle.std.specs.Prelude.{Bool, List}
use Rattle.std.specs.List.{list_any, flat_map}
use Rattle.dp_tree.specs.declared.Program.{Program}
use Rattle.dp_plan.specs.declared.Plan.{Plan}
use Rattle.dp_sites.specs.Compared.{Compared, when_compared}
use Rattle.dp_sites.specs.Storings.{Storing, stores_otherwise}
use Rattle.dp_sites.specs.steps.Parts.{Part, Touched}

-- by this store what some load of the site sees may differ
abbrev pub differs_by_store : Program → Plan → Part → Storing → Bool
differs_by_store p plan u d = list_any (λ (load : Touched). stores_otherwise p plan u load.var d) u.loads

abbrev pub pair_of : Program → Plan → Part → Storing → List Compared
pair_of p plan u d = when_compared (differs_by_store p plan u d) u.site d.site

-- of these stores
abbrev pub pairs_of : Program → Plan → List Storing → Part → List Compared
pairs_of p plan stores u = flat_map (pair_of p plan u) stores

-- .. and of these sites
abbrev pub pairs_among : Program → Plan → List Storing → List Part → List Compared
pairs_among p plan stores parts = flat_map (pairs_of p plan stores) parts
