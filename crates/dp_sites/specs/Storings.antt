-- The sites of a region that store, and by which of them a load may see what the source doesn't have, as the code finds it.
use Rattle.std.specs.Prelude.{ℕ, ◌+◌, ◌==◌, if◌then◌else◌, Bool, true, false, not, ◌&&◌, ◌||◌, List, [], ◌∷◌, filter_map, Option, Some, None, slice_get, nat_lt}
use Rattle.std.specs.Prelude.{count_by}
use Rattle.std.specs.List.{list_all, list_any}
use Rattle.dp_base.specs.declared.SiteId.{SiteId}
use Rattle.dp_base.specs.declared.VarId.{VarId}
use Rattle.dp_tree.specs.declared.Stmt.{Stmt, out-Stmt}
use Rattle.dp_tree.specs.declared.Stmt.TheOpen.{Stmt-F, Assign}
use Rattle.dp_tree.specs.declared.Program.{Program}
use Rattle.dp_plan.specs.declared.Plan.{Plan}
use Rattle.dp_plan.specs.Access.{stage_of, is_replicated, is_body_local}
use Rattle.dp_plan.specs.IsFar.{is_scalar_entry, body_of}
use Rattle.dp_sites.specs.Place.{Place, Step, Gap, step_in, place_at, stride_in, test_of}
use Rattle.dp_sites.specs.declared.place.Gap.TheVariants as gap
use Rattle.dp_sites.specs.steps.Parts.{Part, Touched}
pub use Rattle.dp_sites.specs.declared.moving.Mover.{Mover}
pub use Rattle.dp_sites.specs.declared.moving.Moving.{Moving}
pub use Rattle.dp_sites.specs.declared.moving.Storing.{Storing}

abbrev pub mover_by : SiteId → Option Step → Option Mover
mover_by site None = None
mover_by site (Some step) = Some (record { site = site.0; step = step })

-- the statement, where it moves v
abbrev pub mover_at : VarId → Stmt-F Stmt → Option Mover
mover_at v (Assign site x e) = if x.0 == v.0 then mover_by site (step_in v e) else None
mover_at v _ = None

unfoldable pub mover_of : VarId → Stmt → Option Mover
mover_of v s = mover_at v (out-Stmt s)

abbrev pub or_mover : Option Mover → Option Mover → Option Mover
or_mover (Some m) later = Some m
or_mover None later = later

-- the first of the statements that moves v
abbrev pub mover_in : VarId → List Stmt → Option Mover
mover_in v [] = None
mover_in v (s ∷ rest) = or_mover (mover_of v s) (mover_in v rest)

abbrev pub is_touched : VarId → Option Touched → Bool
is_touched v None = false
is_touched v (Some t) = t.var.0 == v.0

-- the site stores v
abbrev pub part_stores : VarId → Part → Bool
part_stores v u = is_touched v u.stores

-- v is a scalar, no body local, and one site alone stores it
abbrev pub is_moved_alone : Program → Plan → List Part → VarId → Bool
is_moved_alone p plan all v = is_scalar_entry (slice_get p.vars v.0) && (not (is_body_local p plan v.0) && (count_by (part_stores v) all == 1))

abbrev pub moving_with : ℕ → Place → Option Mover → Option Moving
moving_with site q None = None
moving_with site q (Some m) = Some (record { place = q; late = nat_lt m.site site; step = m.step; mover = m.site })

-- how the place that a site stores moves
abbrev pub moving_of : Program → Plan → List Part → List Stmt → ℕ → Option Place → Option Moving
moving_of p plan all body site None = None
moving_of p plan all body site (Some q) = if plan.proved && is_moved_alone p plan all q.by then moving_with site q (mover_in q.by body) else None

abbrev pub storing_of : Program → Plan → List Part → List Stmt → ℕ → Option Touched → Option Storing
storing_of p plan all body site None = None
storing_of p plan all body site (Some t) =
    Some (record { site = site; stage = stage_of p plan site; var = t.var; moving = moving_of p plan all body site t.place })

abbrev pub storing_at : Program → Plan → List Part → List Stmt → Part → Option Storing
storing_at p plan all body u = storing_of p plan all body u.site u.stores

-- the sites that store
abbrev pub storings : Program → Plan → List Part → List Stmt → List Storing
storings p plan all body = filter_map (storing_at p plan all body) all

abbrev pub place_passes : Gap → ℕ → Moving → Option Place → Bool
place_passes test site m None = false
place_passes test site m (Some q) =
    (q.by.0 == m.place.by.0) && test_of test (stride_in m.step) (place_at m.place m.late m.step) (place_at q (nat_lt m.mover site) m.step)

-- a load of the array at this site passes the test
abbrev pub load_passes : Gap → ℕ → VarId → Moving → Touched → Bool
load_passes test site array m load = not (load.var.0 == array.0) || place_passes test site m load.place

abbrev pub passes_by : Gap → Part → VarId → Option Moving → Bool
passes_by test u array None = false
passes_by test u array (Some m) = list_all (load_passes test u.site array m) u.loads

-- the test of what d stores against all that u loads of it
abbrev pub lies_apart : Gap → Part → Storing → Bool
lies_apart test u d = passes_by test u d.var d.moving

abbrev pub end_by : ℕ → Option ℕ → ℕ
end_by site None = site
end_by site (Some last) = last

-- the last site of the outermost inner `while` that has u, or u
abbrev pub end_of : Part → ℕ
end_of u = end_by u.site u.until

-- u stands before the other site, and no inner `while` has both
abbrev pub is_ahead : Part → ℕ → Bool
is_ahead u other = nat_lt u.site other && nat_lt (end_of u) other

-- by the store at d what u sees may differ
abbrev pub differs_by : Program → Plan → Part → Storing → Bool
differs_by p plan u d =
    (nat_lt (stage_of p plan u.site) d.stage && not (lies_apart gap.Strides u d && (lies_apart gap.Whole u d || is_ahead u d.site)))
    || ((is_replicated plan (stage_of p plan u.site) && ((d.stage == stage_of p plan u.site) && not (is_body_local p plan d.var.0))) && not
    (lies_apart gap.Strides u d))

-- d stores x, and by that what u sees of x may differ
abbrev pub stores_otherwise : Program → Plan → Part → VarId → Storing → Bool
stores_otherwise p plan u x d = (d.var.0 == x.0) && differs_by p plan u d

abbrev pub sees_otherwise : Program → Plan → List Storing → Part → Touched → Bool
sees_otherwise p plan all u load = list_any (stores_otherwise p plan u load.var) all

-- what a load of u sees may differ
abbrev pub part_checked : Program → Plan → List Storing → Part → Bool
part_checked p plan all u = list_any (sees_otherwise p plan all u) u.loads

abbrev pub checked_or : Program → Plan → List Storing → Option Part → Bool
checked_or p plan all None = false
checked_or p plan all (Some u) = part_checked p plan all u

-- the sites go up one by one from k
abbrev pub goes_up_from : ℕ → List Part → Bool
goes_up_from k [] = true
goes_up_from k (u ∷ rest) = (u.site == k) && goes_up_from (k + 1) rest

unfoldable pub body_at : Stmt → List Stmt
body_at s = body_of (out-Stmt s)

-- what the code answers at a place
abbrev pub answer_at : Program → Plan → List Part → List Stmt → ℕ → Bool
answer_at p plan all body place = checked_or p plan (storings p plan all body) (slice_get all place)
