-- The lines of checked sites, and of the stores because of which they are.
use Rattle.std.specs.Prelude.{ℕ, Bool, true, false, List, [], ◌++◌, codes}
use Rattle.std.specs.List.{flat_map}
use Rattle.dp_base.specs.declared.SiteId.{SiteId}
use Rattle.dp_text.specs.Labels.{labelled}
use Rattle.dp_tree.specs.declared.Program.{Program}
use Rattle.dp_plan.specs.declared.Plan.{Plan}
use Rattle.dp_plan.specs.CheckedTable.{table_says}
use Rattle.dp_sites.specs.declared.compared.Compared.{Compared}
use Rattle.dp_depend.specs.declared.nodes.Node.{Node}
use Rattle.dp_explain.specs.EdgeText.{node_store_at, variable_text}

-- a site that is checked
abbrev pub check_line : Bool → SiteId → List ℕ
check_line true site = labelled (codes "checked ") site.0 ++ codes "\n"
check_line false site = []

-- the checked ones of these sites
abbrev pub check_lines : Program → Plan → List Node → List ℕ
check_lines p plan nodes = flat_map (λ (n : Node). check_line (table_says p plan n.site.0) n.site) nodes

-- a checked site, and a store because of which it is, with the variable that this stores
abbrev pub compared_line : Program → ℕ → List Node → Compared → List ℕ
compared_line p first nodes c =
    labelled (codes "compared ") c.site.0 ++ (labelled (codes " ") c.store.0 ++ (variable_text p (node_store_at first nodes c.store.0) ++ codes "\n"))

abbrev pub compared_lines : Program → ℕ → List Node → List Compared → List ℕ
compared_lines p first nodes pairs = flat_map (compared_line p first nodes) pairs
