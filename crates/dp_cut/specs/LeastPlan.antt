-- The least plan of a region: its least cut, written as a plan.
use Rattle.std.specs.Prelude.{ℕ, ◌≡◌, ◌+◌, ◌-◌, ◌==◌, if◌then◌else◌, Bool, true, ◌&&◌, nat_lt, List, [], ◌∷◌, length, map, filter, slice_index}
use Rattle.std.specs.List.{list_any, flat_map}
use Rattle.dp_base.specs.declared.limits.TheConstants.{MOST_WORDS}
use Rattle.dp_tree.specs.declared.Assume.{Assume}
use Rattle.dp_tree.specs.declared.Program.{Program}
use Rattle.dp_tree.specs.Numbering.{numbers_from}
use Rattle.dp_plan.specs.declared.Plan.{Plan}
use Rattle.dp_plan.specs.declared.StageKind.{StageKind}
use Rattle.dp_plan.specs.declared.StageKind.TheVariants.{Seq, Par}
use Rattle.dp_plan.specs.CheckedTable.{with_table}
use Rattle.dp_plan.specs.Written.{has}
use Rattle.dp_depend.specs.declared.Edge.{Edge}
use Rattle.dp_depend.specs.declared.EdgeKind.{EdgeKind}
use Rattle.dp_depend.specs.declared.EdgeKind.TheVariants.{Control, Intra, Carried}
use Rattle.dp_depend.specs.declared.nodes.Node.{Node}
use Rattle.dp_depend.specs.Node.{region_nodes}
use Rattle.dp_depend.specs.Edges.{first_in_region}
use Rattle.dp_least_cut.specs.declared.Stretch.{Stretch}
use Rattle.dp_least_cut.specs.LeastCut.{IsLeastCut}

-- the sum of the weights of the sites whose unit has this place
abbrev pub unit_weight : List ℕ → List ℕ → ℕ → ℕ
unit_weight [] weights place = 0
unit_weight (q ∷ places) [] place = 0
unit_weight (q ∷ places) (w ∷ weights) place = (if q == place then w else 0) + unit_weight places weights place

-- the weights of so many units, in their order
abbrev pub unit_weights : ℕ → List ℕ → List ℕ → List ℕ
unit_weights count places weights = map (unit_weight places weights) (numbers_from 0 count)

-- what a list, from the region's first site on, has of a site
abbrev pub at_site : List ℕ → ℕ → ℕ → ℕ
at_site list first site = slice_index list (site - first)

abbrev pub when_carried : EdgeKind → ℕ → ℕ → List (ℕ × ℕ)
when_carried Control from to = []
when_carried Intra from to = []
when_carried Carried from to = (from, to) ∷ []

-- the units that a carried edge joins, by their places
abbrev pub carried_pair : List ℕ → ℕ → Edge → List (ℕ × ℕ)
carried_pair places first e = when_carried e.kind (at_site places first e.from.0) (at_site places first e.to.0)

abbrev pub carried_pairs : List ℕ → ℕ → List Edge → List (ℕ × ℕ)
carried_pairs places first edges = flat_map (carried_pair places first) edges

-- the stage of the unit so many places behind the first one of these stages, of which the first has number k
abbrev pub stage_of_unit : ℕ → List Stretch → ℕ → ℕ
stage_of_unit k [] place = k
stage_of_unit k (s ∷ rest) place = if nat_lt place s.units then k else stage_of_unit (k + 1) rest (place - s.units)

abbrev pub stretch_kind : Stretch → StageKind
stretch_kind s = if s.replicated then Par else Seq

-- the stages of the sites whose units have these places
abbrev pub stages_of : List Stretch → List ℕ → List ℕ
stages_of cut places = map (stage_of_unit 1 cut) places

-- a site inside the statement is in an earlier stage than its condition
abbrev pub stands_late : List ℕ → ℕ → ℕ → Node → Bool
stands_late stages first site u = has site u.around && nat_lt (at_site stages first u.site.0) (at_site stages first site)

-- the outcome has to be assumed
abbrev pub must_assume : List ℕ → ℕ → List Node → Assume → Bool
must_assume stages first nodes a = list_any (stands_late stages first a.site.0) nodes

-- the plan without its table that a cut stands for
abbrev pub cut_plan_before_table : Program → ℕ → List ℕ → List Assume → List Stretch → Plan
cut_plan_before_table p r places chosen cut = record {
  region = r;
  words = MOST_WORDS;
  stages = map stretch_kind cut;
  stage_of = stages_of cut places;
  assume = filter (must_assume (stages_of cut places) (first_in_region p r) (region_nodes p r)) chosen;
  proved = true;
  checked_at = [];
}

-- the plan that a cut stands for
abbrev pub plan_of_cut : Program → ℕ → List ℕ → List Assume → List Stretch → Plan
plan_of_cut p r places chosen cut = with_table p (cut_plan_before_table p r places chosen cut)

-- the plan of the least cut of a graph's units; `order` lists the units, and `places` has for each site the place of its unit
pub record IsLeastPlan (p : Program) (r : ℕ) (edges : List Edge) (chosen : List Assume) (order places weights : List ℕ) (most workers : ℕ)
    (plan : Plan) : Type 0 where
  pub cut : List Stretch
  pub least : IsLeastCut (unit_weights (length order) places weights) (carried_pairs places (first_in_region p r) edges) most workers cut
  pub is : plan ≡ plan_of_cut p r places chosen cut
