-- What a plan rests on, as a text.
use Rattle.std.specs.Prelude.{ℕ, List, ◌++◌, codes, length, Option, None}
use Rattle.dp_text.specs.Labels.{labelled}
use Rattle.dp_tree.specs.declared.Program.{Program}
use Rattle.dp_plan.specs.declared.Plan.{Plan}
use Rattle.dp_sites.specs.Compared.{compared_stores}
use Rattle.dp_profile.specs.declared.Profile.{Profile}
use Rattle.dp_profile.specs.Sites.{regions}
use Rattle.dp_depend.specs.declared.Edge.{Edge}
use Rattle.dp_depend.specs.declared.nodes.Node.{Node}
use Rattle.dp_depend.specs.Node.{region_nodes}
use Rattle.dp_depend.specs.Edges.{edges_of, first_in_region}
use Rattle.dp_units.specs.declared.classes.Units.{Units}
use Rattle.dp_units.specs.Order.{ArePlaces, IsOrder}
use Rattle.dp_cut.specs.Automatic.{node_pairs, weights_of}
use Rattle.dp_explain.specs.EdgeText.{edge_texts}
use Rattle.dp_explain.specs.CheckText.{check_lines, compared_lines}
use Rattle.dp_explain.specs.UnitText.{unit_lines}
use Rattle.dp_explain.specs.ForwardText.{forward_lines}
use Rattle.dp_explain.specs.ShownText.{shown_lines}

-- These are the units of region r by the dependences that a plan minds, as they are cut.
pub record AreUnits (p : Program) (r : ℕ) (profile : Option Profile) (rate : ℕ) (units : Units) : Type 0 where
  pub ordered : IsOrder (length (region_nodes p r)) (node_pairs p r profile rate) units.order
  pub placed : ArePlaces (length (region_nodes p r)) (node_pairs p r profile rate) units.order units.place_of

-- by the text alone: its region's number, all dependences that the text of the region has, whatever a profile shows, and the sites that are checked
abbrev pub plain_text : Program → Plan → List ℕ
plain_text p plan =
    labelled (codes "region ") plan.region
    ++ (codes "\n" ++ (edge_texts (codes "edge ") p (first_in_region p plan.region) (region_nodes p plan.region) (edges_of p plan.region None 0)
    ++ check_lines p plan (region_nodes p plan.region)))

-- The dependences that the plan minds, the units that follow from them, with the weights of these sites, the stores because of which sites are
-- checked, and what goes forward between stages.
abbrev pub minded_with : Program → Plan → ℕ → List Node → List Edge → List ℕ → Units → List ℕ
minded_with p plan first nodes edges weights units =
    edge_texts (codes "minded ") p first nodes edges
    ++ (unit_lines units.place_of weights first nodes (length units.order)
    ++ (compared_lines p first nodes (compared_stores p plan)
    ++ forward_lines p plan first nodes edges))

-- by the profile, if there is one, and the rate
abbrev pub minded_text : Program → Option Profile → ℕ → Units → Plan → List ℕ
minded_text p profile rate units plan =
    minded_with p plan (first_in_region p plan.region) (region_nodes p plan.region) (edges_of p plan.region profile rate)
    (weights_of p plan.region profile) units
    ++ shown_lines (regions p) plan.region profile

-- what the plan rests on, where these are the units of its region
abbrev pub reason_text : Program → Option Profile → ℕ → Units → Plan → List ℕ
reason_text p profile rate units plan = plain_text p plan ++ minded_text p profile rate units plan
