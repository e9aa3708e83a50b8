-- The lines of units: the weight of each, and its sites.
use Rattle.std.specs.Prelude.{ℕ, ◌==◌, if◌then◌else◌, List, [], ◌++◌, codes}
use Rattle.std.specs.List.{flat_map}
use Rattle.dp_text.specs.Labels.{labelled}
use Rattle.dp_tree.specs.Numbering.{numbers_from}
use Rattle.dp_depend.specs.declared.nodes.Node.{Node}
use Rattle.dp_cut.specs.LeastPlan.{at_site, unit_weight}

-- the site, where its unit has this place
abbrev pub member_text : List ℕ → ℕ → ℕ → Node → List ℕ
member_text places first place n = if at_site places first n.site.0 == place then labelled (codes " ") n.site.0 else []

abbrev pub members_text : List ℕ → ℕ → List Node → ℕ → List ℕ
members_text places first nodes place = flat_map (member_text places first place) nodes

-- the unit at a place
abbrev pub unit_line : List ℕ → List ℕ → ℕ → List Node → ℕ → List ℕ
unit_line places weights first nodes place =
    labelled (codes "unit ") (unit_weight places weights place) ++ (members_text places first nodes place ++ codes "\n")

-- so many units, in their order
abbrev pub unit_lines : List ℕ → List ℕ → ℕ → List Node → ℕ → List ℕ
unit_lines places weights first nodes count = flat_map (unit_line places weights first nodes) (numbers_from 0 count)
