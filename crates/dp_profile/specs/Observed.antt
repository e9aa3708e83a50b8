-- What a run shows of the program's regions: counts over its trace.
use Rattle.std.specs.Prelude.{ℕ, ◌+◌, ◌==◌, if◌then◌else◌, Bool, true, false, not, ◌&&◌, ◌||◌, nat_le, nat_lt, List, [], ◌∷◌, ◌++◌, map, count_by, ℤ, Option}
use Rattle.std.specs.Prelude.{Some, None}
use Rattle.std.specs.List.{list_any, flat_map}
use Rattle.dp_base.specs.Arithmetic.{is_zero}
use Rattle.dp_tree.specs.declared.VarInfo.{VarInfo}
use Rattle.dp_tree.specs.declared.Program.{Program}
use Rattle.dp_tree.specs.Step.{Effect, Stored, Printed, Decided, Tried, Event, is_local_of}
use Rattle.dp_tree.specs.Trace.{Run, run_of, begin}
use Rattle.dp_profile.specs.declared.RegionProfile.{RegionProfile}
use Rattle.dp_profile.specs.declared.SiteCount.{SiteCount}
use Rattle.dp_profile.specs.declared.Flow.{Flow}
use Rattle.dp_profile.specs.Sites.{RegionSite, regions, has_numbered_site}
pub use Rattle.dp_profile.specs.declared.Observed.{Observed}

-- a region of which nothing is shown
abbrev pub nothing_shown : RegionProfile
nothing_shown = record { sites = []; flows = [] }

-- a condition that gave another value than 0, an early exit's too
abbrev pub gives_nonzero : Effect → Bool
gives_nonzero (Decided value) = not (is_zero value)
gives_nonzero (Tried value) = not (is_zero value)
gives_nonzero (Stored cell value) = false
gives_nonzero (Printed value) = false

-- how often the site was evaluated, and how often its condition gave another value than 0
abbrev pub counts_of_site : List Event → RegionSite → SiteCount
counts_of_site trace s = record {
  runs = count_by (λ e. e.site == s.site.0) trace;
  nonzero = count_by (λ e. (e.site == s.site.0) && gives_nonzero e.effect) trace;
}

-- the event is the evaluation of the region's condition, its first site, with which an iteration begins
abbrev pub begins_iteration : List RegionSite → Event → Bool
begins_iteration [] e = false
begins_iteration (s ∷ rest) e = s.site.0 == e.site

-- the event stores into the cell
abbrev pub stores_to_cell : ℕ → Effect → Bool
stores_to_cell cell (Stored c value) = c == cell
stores_to_cell cell (Printed value) = false
stores_to_cell cell (Decided value) = false
stores_to_cell cell (Tried value) = false

-- a store that is found: its site, and whether it was of an earlier iteration
pub record FoundStore : Type 0 where
  pub site : ℕ
  pub carried : Bool

-- The last store into the cell since the region's start, searched backward through the events before, the latest first; `carried` says
-- whether an iteration began since the events that were passed. The region started where the events of its sites began.
abbrev pub last_store : List RegionSite → ℕ → Bool → List Event → Option FoundStore
last_store sites cell carried [] = None
last_store sites cell carried (e ∷ before) =
    if has_numbered_site e.site sites then
    (if stores_to_cell cell e.effect then Some (record { site = e.site; carried = carried }) else last_store sites cell
    (carried || begins_iteration sites e) before)
    else None

-- the cell is one of the variable
abbrev pub is_cell_in : ℕ → VarInfo → Bool
is_cell_in cell x = nat_le x.first.0 cell && nat_lt cell (x.first.0 + x.length)

-- the cell is that of a body local of region r
abbrev pub is_body_cell : Program → ℕ → ℕ → Bool
is_body_cell p r cell = list_any (λ x. is_local_of r x.scope && is_cell_in cell x) p.vars

abbrev pub same_kind : Bool → Bool → Bool
same_kind true b = b
same_kind false b = not b

-- the store is of this site and this kind; a body local has no value of an earlier iteration
abbrev pub is_from : Bool → ℕ → Bool → Option FoundStore → Bool
is_from local from carried None = false
is_from local from carried (Some s) = (s.site == from) && (same_kind s.carried carried && not (s.carried && local))

-- how many of the event's loads are of what the site `from` stored, where these events come before
abbrev pub shown_by : Program → ℕ → List RegionSite → ℕ → Bool → Event → List Event → ℕ
shown_by p r sites from carried e before =
    count_by (λ load. is_from (is_body_cell p r load.cell) from carried (last_store sites load.cell (begins_iteration sites e) before)) e.loads

-- the same of the events at the site `to` of a trace whose latest event comes first
abbrev pub shown_back : Program → ℕ → List RegionSite → ℕ → ℕ → Bool → List Event → ℕ
shown_back p r sites from to carried [] = 0
shown_back p r sites from to carried (e ∷ before) =
    (if e.site == to then shown_by p r sites from carried e before else 0) + shown_back p r sites from to carried before

-- the events, the latest first
abbrev pub backward : List Event → List Event → List Event
backward before [] = before
backward before (e ∷ later) = backward (e ∷ before) later

-- the flow between two sites, where there was a load
abbrev pub flow_of : ℕ → RegionSite → RegionSite → Bool → List Flow
flow_of n d u carried = if n == 0 then [] else record { from = d.site; to = u.site; carried = carried; shown = n } ∷ []

abbrev pub flows_between : Program → ℕ → List RegionSite → List Event → RegionSite → RegionSite → List Flow
flows_between p r sites trace d u =
    flow_of (shown_back p r sites d.site.0 u.site.0 false (backward [] trace)) d u false
    ++ flow_of (shown_back p r sites d.site.0 u.site.0 true (backward [] trace)) d u true

-- the flows of region r, in the order of their sites
abbrev pub flows_seen : Program → ℕ → List RegionSite → List Event → List Flow
flows_seen p r sites trace = flat_map (λ d. flat_map (flows_between p r sites trace d) sites) sites

abbrev pub region_seen : Program → ℕ → List RegionSite → List Event → RegionProfile
region_seen p r sites trace = record { sites = map (counts_of_site trace) sites; flows = flows_seen p r sites trace }

-- the regions from r on
abbrev pub regions_seen : Program → ℕ → List (List RegionSite) → List Event → List RegionProfile
regions_seen p r [] trace = []
regions_seen p r (sites ∷ later) trace = region_seen p r sites trace ∷ regions_seen p (r + 1) later trace

-- what a run shows, and its end
abbrev pub observed_in : Program → Run → Observed
observed_in p run = record { profile = record { regions = regions_seen p 1 (regions p) run.trace }; end = run.end }

-- the run of at most so many steps from the program's start
abbrev pub observed : Program → List ℤ → ℕ → Observed
observed p input fuel = observed_in p (run_of p input fuel (begin p))
