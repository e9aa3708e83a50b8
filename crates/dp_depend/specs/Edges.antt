-- The dependence edges of a region.
use Rattle.std.specs.Prelude.{ℕ, ◌-◌, Bool, true, false, not, ◌==◌, ◌&&◌, ◌||◌, nat_lt, List, [], ◌∷◌, ◌++◌, map, Option, Some, None, slice_get}
use Rattle.std.specs.List.{flat_map}
use Rattle.dp_tree.specs.declared.Assume.{Assume}
use Rattle.dp_tree.specs.declared.Program.{Program}
use Rattle.dp_plan.specs.Stage.{first_site_of, is_local}
use Rattle.dp_plan.specs.Written.{has}
use Rattle.dp_plan.specs.Rules.{assumed_site}
use Rattle.dp_plan.specs.IsFar.{is_far, is_far_within}
use Rattle.dp_profile.specs.declared.Profile.{Profile}
use Rattle.dp_profile.specs.declared.SiteCount.{SiteCount}
use Rattle.dp_profile.specs.declared.Flow.{Flow}
use Rattle.dp_depend.specs.declared.Edge.{Edge}
use Rattle.dp_depend.specs.declared.EdgeKind.{EdgeKind}
use Rattle.dp_depend.specs.declared.EdgeKind.TheVariants.{Control, Intra, Carried}
use Rattle.dp_depend.specs.Node.{Node, region_nodes}
use Rattle.dp_depend.specs.Shown.{region_profile, is_kept, chosen_among}

-- the node's site
abbrev pub node_site : Node → ℕ
node_site n = n.site.0

abbrev pub is_loaded : Option ℕ → List ℕ → Bool
is_loaded None loads = false
is_loaded (Some x) loads = has x loads

-- u loads a variable that d stores
abbrev pub has_flow : Node → Node → Bool
has_flow d u = is_loaded d.stores u.loads

abbrev pub same_loop : Option ℕ → Option ℕ → Bool
same_loop None other = false
same_loop (Some a) None = false
same_loop (Some a) (Some b) = a == b

-- d stands before u in the text, where sites are numbered, or both are sites of one inner `while`: then the outermost is the same
abbrev pub may_come_before : Node → Node → Bool
may_come_before d u = nat_lt d.site.0 u.site.0 || same_loop d.outer_loop u.outer_loop

abbrev pub is_region_local : Program → ℕ → Option ℕ → Bool
is_region_local p r None = false
is_region_local p r (Some x) = is_local r (slice_get p.vars x)

-- u stands inside the statement with d's condition, of which no outcome is assumed
abbrev pub is_control : Bool → Node → Node → Bool
is_control assumed d u = not assumed && has d.site.0 u.around

-- by a store at d in the same iteration
abbrev pub is_intra : Program → ℕ → List SiteCount → List Flow → ℕ → ℕ → Node → Node → Bool
is_intra p r counts flows first rate d u =
    has_flow d u && (may_come_before d u && (is_kept counts flows first rate d.site.0 u.site.0 false && not (is_far_within p r d.site.0 u.site.0)))

-- by a store at d in an earlier one
abbrev pub is_carried : Program → ℕ → List SiteCount → List Flow → ℕ → ℕ → Node → Node → Bool
is_carried p r counts flows first rate d u =
    has_flow d u && (not (is_region_local p r d.stores) && (is_kept counts flows first rate d.site.0 u.site.0 true && not (is_far p r d.site.0 u.site.0)))

abbrev pub edge : Node → Node → EdgeKind → Edge
edge d u kind = record { from = d.site; to = u.site; kind = kind }

abbrev pub edge_when : Bool → Edge → List Edge
edge_when true e = e ∷ []
edge_when false e = []

-- the edges from d to u, by kind
unfoldable pub edges_between : Program → ℕ → List SiteCount → List Flow → ℕ → ℕ → Bool → Node → Node → List Edge
edges_between p r counts flows first rate assumed d u =
    edge_when (is_control assumed d u) (edge d u Control)
    ++ (edge_when (is_intra p r counts flows first rate d u) (edge d u Intra) ++ edge_when (is_carried p r counts flows first rate d u) (edge d u Carried))

-- an outcome of d's condition is assumed
abbrev pub is_assumed : List Assume → Node → Bool
is_assumed chosen d = has d.site.0 (map assumed_site chosen)

-- the edges from d to these
unfoldable pub edges_from : Program → ℕ → List SiteCount → List Flow → ℕ → ℕ → Bool → Node → List Node → List Edge
edges_from p r counts flows first rate assumed d to = flat_map (edges_between p r counts flows first rate assumed d) to

-- the edges from these to all sites
unfoldable pub edges_among : Program → ℕ → List SiteCount → List Flow → ℕ → ℕ → List Assume → List Node → List Node → List Edge
edges_among p r counts flows first rate chosen all from =
    flat_map (λ d. edges_from p r counts flows first rate (is_assumed chosen d) d all) from

-- the first site of region r
abbrev pub first_in_region : Program → ℕ → ℕ
first_in_region p r = first_site_of (slice_get p.regions (r - 1))

-- the outcomes that may be assumed in region r, ascending by site
abbrev pub chosen_of : Program → ℕ → Option Profile → ℕ → List Assume
chosen_of p r profile rate = chosen_among (region_profile profile r).sites (first_in_region p r) rate (region_nodes p r)

-- the edges of region r, ascending by their ends and their kind, since sites are numbered in text order
abbrev pub edges_of : Program → ℕ → Option Profile → ℕ → List Edge
edges_of p r profile rate =
    edges_among p r (region_profile profile r).sites (region_profile profile r).flows (first_in_region p r) rate (chosen_of p r profile rate)
    (region_nodes p r) (region_nodes p r)
