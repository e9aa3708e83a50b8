-- Lines of what plans rest on.
use Rattle.std.proofs.Common.{◌≡◌, refl, ℕ, true, false, List, [], ◌∷◌, pos, Some, None, Option, codes}
use Rattle.dp_text.specs.Labels.{labelled}
use Rattle.dp_tree.specs.declared.Program.{Program}
use Rattle.dp_tree.specs.declared.VarScope.TheVariants.{Global}
use Rattle.dp_tree.proofs.Build.{array, one_region, program, scalar, tree_opened}
use Rattle.dp_plan.specs.declared.Plan.{Plan}
use Rattle.dp_plan.specs.declared.StageKind.{StageKind}
use Rattle.dp_plan.specs.declared.StageKind.TheVariants.{Seq, Par}
use Rattle.dp_sites.specs.declared.compared.Compared.{Compared}
use Rattle.dp_sites.specs.Compared.{compared_stores}
use Rattle.dp_profile.specs.declared.Profile.{Profile}
use Rattle.dp_profile.specs.declared.sites.RegionSite.{RegionSite}
use Rattle.dp_profile.specs.Sites.{region_site}
use Rattle.dp_profile.proofs.rows.Profiles.{count, flow}
use Rattle.dp_depend.specs.declared.EdgeKind.{EdgeKind}
use Rattle.dp_depend.specs.declared.EdgeKind.TheVariants.{Control, Intra, Carried}
use Rattle.dp_depend.specs.declared.Edge.{Edge}
use Rattle.dp_depend.specs.declared.nodes.Node.{Node}
use Rattle.dp_depend.proofs.rows.Programs.{ahead}
use Rattle.dp_explain.specs.EdgeText.{edge_texts}
use Rattle.dp_explain.specs.CheckText.{check_lines, compared_lines}
use Rattle.dp_explain.specs.UnitText.{unit_lines}
use Rattle.dp_explain.specs.ForwardText.{forward_lines}
use Rattle.dp_explain.specs.ShownText.{shown_lines}
use Rattle.dp_explain.specs.Explanation.{IsExplanation, none}

-- int x; int h[3];, whose region has sites 2 to 4
abbrev two_variables : Program
two_variables = program (record (scalar 0 (pos 0) Global) { name = codes "x" } ∷ record (array 1 3) { name = codes "h" } ∷ []) [] (one_region 4 2 4) []

abbrev node : ℕ → Option ℕ → Node
node site stores = record { site = record { 0 = site }; is_if = false; loads = []; stores = stores; around = []; outer_loop = None }

-- the second of them stores h, and the third x
abbrev three_nodes : List Node
three_nodes = node 2 None ∷ node 3 (Some 1) ∷ node 4 (Some 0) ∷ []

abbrev edge_of : ℕ → ℕ → EdgeKind → Edge
edge_of from to kind = record { from = record { 0 = from }; to = record { 0 = to }; kind = kind }

abbrev some_edges : List Edge
some_edges = edge_of 2 10 Control ∷ edge_of 3 2 Carried ∷ edge_of 3 4 Intra ∷ edge_of 4 3 Intra ∷ edge_of 4 4 Carried ∷ []

edges : edge_texts (codes "edge ") two_variables 2 three_nodes some_edges ≡ codes
    "edge 2 10 control\nedge 3 2 carried 1 h\nedge 3 4 intra 1 h\nedge 4 3 intra 0 x\nedge 4 4 carried 0 x\n"
unfolding labelled Rattle.std.specs.Fmt.digits
edges = refl

abbrev plan_of : List ℕ → List StageKind → Plan
plan_of stages kinds = record { region = 1; words = 16; stages = kinds; stage_of = stages; assume = []; proved = true; checked_at = true ∷ false ∷ true ∷ [] }

-- of three sites the first and the last
checks : check_lines two_variables (plan_of (1 ∷ 1 ∷ 2 ∷ []) []) three_nodes ≡ codes "checked 2\nchecked 4\n"
unfolding labelled Rattle.std.specs.Fmt.digits
checks = refl

abbrev pair : ℕ → ℕ → Compared
pair site store = record { site = record { 0 = site }; store = record { 0 = store } }

pairs : compared_lines two_variables 2 three_nodes (pair 2 3 ∷ pair 2 4 ∷ pair 4 3 ∷ []) ≡ codes "compared 2 3 1 h\ncompared 2 4 0 x\ncompared 4 3 1 h\n"
unfolding labelled Rattle.std.specs.Fmt.digits
pairs = refl

-- the load of a at 4 sees what 3 stored one iteration before, and both loads of s see what 5 stored; what 5 loads of a isn't stored yet
stores : compared_stores ahead (plan_of (1 ∷ 2 ∷ 1 ∷ 2 ∷ 1 ∷ []) (Seq ∷ Seq ∷ [])) ≡ pair 4 3 ∷ pair 4 5 ∷ []
unfolding tree_opened
stores = refl

-- another worker of their own stage may store s
beside : compared_stores ahead (plan_of (1 ∷ 1 ∷ 2 ∷ 2 ∷ 1 ∷ []) (Seq ∷ Par ∷ [])) ≡ pair 4 4 ∷ pair 4 5 ∷ pair 5 4 ∷ pair 5 5 ∷ []
unfolding tree_opened
beside = refl

-- the sites 2 and 4 are one unit
units : unit_lines (0 ∷ 1 ∷ 0 ∷ []) (5 ∷ 7 ∷ 90 ∷ []) 2 three_nodes 2 ≡ codes "unit 95 2 4\nunit 7 3\n"
unfolding labelled Rattle.std.specs.Fmt.digits
units = refl

-- what passes over a stage goes forward behind it too
forward : forward_lines two_variables (plan_of (1 ∷ 2 ∷ 3 ∷ []) (Seq ∷ Seq ∷ Seq ∷ [])) 2 three_nodes (edge_of 2 4 Control ∷ edge_of 3 2 Carried
    ∷ edge_of 3 4 Intra ∷ edge_of 4 4 Carried ∷ [])
    ≡ codes "forward 1 2 4 control\nforward 2 2 4 control\nforward 2 3 4 intra 1 h\n"
unfolding labelled Rattle.std.specs.Fmt.digits
forward = refl

abbrev two_regions : List (List RegionSite)
two_regions = (region_site (record { 0 = 2 }) true ∷ []) ∷ (region_site (record { 0 = 5 }) true ∷ region_site (record { 0 = 6 }) false ∷ []) ∷ []

abbrev both_shown : Profile
both_shown = record {
  regions = record { sites = count 1 0 ∷ []; flows = [] }
      ∷ record { sites = count 4 3 ∷ count 3 0 ∷ []; flows = flow 6 5 true 3 ∷ [] } ∷ [];
}

-- the second region's own
shown : shown_lines two_regions 2 (Some both_shown) ≡ codes "runs 5 4 3\nruns 6 3 0\nflow 6 5 carried 3\n"
unfolding Rattle.dp_profile_text.specs.WrittenText.profile_line_text Rattle.std.specs.Fmt.digits
shown = refl

nothing_shown : shown_lines two_regions 2 None ≡ []
nothing_shown = refl

-- a program without regions
no_plan : IsExplanation two_variables None 10 [] (codes "plan 2\nend\nend\n")
unfolding Rattle.std.specs.Fmt.digits
no_plan = record { reasons = []; are = none; is = refl }
