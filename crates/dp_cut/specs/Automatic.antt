-- The automatic plan of a region: the least plan of the units of its dependences.
use Rattle.std.specs.Prelude.{ℕ, ◌-◌, ◌≡◌, List, map, length, Option, Some, None}
use Rattle.dp_tree.specs.declared.Program.{Program}
use Rattle.dp_tree.specs.Numbering.{numbers_from}
use Rattle.dp_plan.specs.declared.Plan.{Plan}
use Rattle.dp_plan.specs.GivenPlans.{region_of}
use Rattle.dp_plan.specs.Each.{Each}
use Rattle.dp_profile.specs.declared.Profile.{Profile}
use Rattle.dp_depend.specs.declared.Edge.{Edge}
use Rattle.dp_depend.specs.declared.nodes.Node.{Node}
use Rattle.dp_depend.specs.Node.{region_nodes}
use Rattle.dp_depend.specs.Edges.{chosen_of, edges_of, first_in_region}
use Rattle.dp_depend.specs.Shown.{counts_at, region_profile}
use Rattle.dp_units.specs.Order.{ArePlaces, IsOrder}
use Rattle.dp_cut.specs.LeastPlan.{IsLeastPlan}

-- the weight of a site: its runs, or 1 without a profile
abbrev pub site_weight : Option Profile → ℕ → ℕ → Node → ℕ
site_weight None r first n = 1
site_weight (Some profile) r first n = (counts_at (region_profile (Some profile) r).sites first n.site.0).runs

-- the weights of a region's sites, in text order
abbrev pub weights_of : Program → ℕ → Option Profile → List ℕ
weights_of p r profile = map (site_weight profile r (first_in_region p r)) (region_nodes p r)

-- the ends of an edge, where the region's first site has number 0
abbrev pub node_pair : ℕ → Edge → ℕ × ℕ
node_pair first e = (e.from.0 - first, e.to.0 - first)

-- the edges of the region as pairs of numbers
abbrev pub node_pairs : Program → ℕ → Option Profile → ℕ → List (ℕ × ℕ)
node_pairs p r profile rate = map (node_pair (first_in_region p r)) (edges_of p r profile rate)

-- the plan is the least of region r, in at most so many stages, for so many workers
pub record IsAutomatic (p : Program) (r : ℕ) (profile : Option Profile) (rate most workers : ℕ) (plan : Plan) : Type 0 where
  pub order : List ℕ
  pub places : List ℕ
  pub ordered : IsOrder (length (region_nodes p r)) (node_pairs p r profile rate) order
  pub placed : ArePlaces (length (region_nodes p r)) (node_pairs p r profile rate) order places
  pub least : IsLeastPlan p r (edges_of p r profile rate) (chosen_of p r profile rate) order places (weights_of p r profile) most workers plan

-- the plans are the least of each region, in order
pub record AreAutomatic (p : Program) (profile : Option Profile) (rate most workers : ℕ) (plans : List Plan) : Type 0 where
  pub regions : map region_of plans ≡ numbers_from 1 (length p.regions)
  pub each : Each (λ (plan : Plan). IsAutomatic p plan.region profile rate most workers plan) plans
