-- What is told of the iterations of a region, one after the other.
use Rattle.std.specs.Prelude.{◌≡◌, ◌⊎◌, ℕ, ◌+◌, ◌<◌, Bool, true, false, cond, nat_lt, List, ℤ, Option, Some, None}
use Rattle.dp_tree.specs.declared.Program.{Program}
use Rattle.dp_tree.specs.Trace.{Run, prints}
use Rattle.dp_tree.specs.Iteration.{begun_count, has_ended, is_begun, is_closing, iteration}
use Rattle.dp_plan.specs.declared.Plan.{Plan}
use Rattle.dp_semantics.specs.Recovery.{is_recovered}
use Rattle.dp_meaning.specs.declared.ends.IterEnd.{IterEnd}
use Rattle.dp_meaning.specs.declared.ends.IterEnd.TheVariants.{Next, Closed, Fault, Fuel, Going}
use Rattle.dp_meaning.specs.MachineState.{MachineState}
use Rattle.dp_commit.specs.CommittedState.{CommittedState, region_run}
use Rattle.dp_log.specs.Changes.{changes_of}
use Rattle.dp_epoch.specs.declared.ends.RegionEnd.{RegionEnd}
use Rattle.dp_epoch.specs.declared.ends.RegionEnd.TheVariants as region_end
use Rattle.dp_epoch.specs.Progress.{RegionDone}
use Rattle.dp_audit.specs.declared.group.Group.{Group}
use Rattle.dp_audit.specs.declared.runner.Runner.{Runner}
use Rattle.dp_audit.specs.Runs.{RegionStands}

-- behind an iteration that ended so the next one comes, or the region was left
abbrev pub is_iteration_over : IterEnd → Bool
is_iteration_over Next = true
is_iteration_over Closed = true
is_iteration_over (Fault fault) = false
is_iteration_over Fuel = false
is_iteration_over Going = false

-- it left the region
abbrev pub is_left : IterEnd → Bool
is_left Closed = true
is_left Next = false
is_left (Fault fault) = false
is_left Fuel = false
is_left Going = false

-- The group tells of the run's iteration n in the plan's region.
pub record IsGroup (p : Program) (plan : Plan) (run : Run) (n : ℕ) (group : Group) : Type 0 where
  pub number : group.iteration ≡ n
  pub begun : is_begun run plan.region n ≡ true
  pub again : group.again ≡ is_recovered p plan run n
  pub sets : group.sets ≡ changes_of p plan run n
  pub prints_are : group.prints ≡ prints (iteration run plan.region n)
  pub over : has_ended run plan.region n ≡ is_iteration_over group.end
  pub left : is_closing run plan.region n ≡ is_left group.end

-- The region has ended so, and n of its iterations were begun.
pub record RegionHasEnded (plan : Plan) (first : MachineState) (n : ℕ) (r : Runner) (end : RegionEnd) : Type 0 where
  pub done : RegionDone plan first r.ledger.committed r.ledger.account end
  pub begun : begun_count (region_run first) plan.region ≡ n

-- where the region stands behind an iteration that ended so, with which n were begun
abbrev pub StandsBehind : Program → Plan → List ℤ → MachineState → ℕ → Runner → IterEnd → Type 0
StandsBehind p plan input first n r Next = RegionStands p plan input first n r
StandsBehind p plan input first n r Closed = RegionHasEnded plan first n r region_end.Closed
StandsBehind p plan input first n r (Fault fault) = RegionHasEnded plan first n r (region_end.Fault fault)
StandsBehind p plan input first n r Fuel = RegionHasEnded plan first n r region_end.Fuel
StandsBehind p plan input first n r Going = ⊥

-- what comes behind the first n iterations: the next one, or that the fuel is spent before its condition
abbrev pub GivesGroup : Program → Plan → List ℤ → MachineState → ℕ → Runner → Option Group → Type 0
GivesGroup p plan input first n r (Some group) = IsGroup p plan (region_run first) n group × StandsBehind p plan input first (n + 1) r group.end
GivesGroup p plan input first n r None = (is_begun (region_run first) plan.region n ≡ false) × RegionHasEnded plan first n r region_end.Fuel

-- The iteration behind this was made. Where it isn't begun, the fuel is spent.
pub record Makes (p : Program) (plan : Plan) (input : List ℤ) (first : MachineState) (c : CommittedState) (r : Runner) (group : Group) : Type 0 where
  pub number : group.iteration ≡ c.count
  pub again : group.again ≡ is_recovered p plan (region_run first) c.count
  pub sets : group.sets ≡ changes_of p plan (region_run first) c.count
  pub prints_are : c.machine.steps < c.machine.fuel → group.prints ≡ prints (iteration (region_run first) plan.region c.count)
  pub over : c.machine.steps < c.machine.fuel → has_ended (region_run first) plan.region c.count ≡ is_iteration_over group.end
  pub left : c.machine.steps < c.machine.fuel → is_closing (region_run first) plan.region c.count ≡ is_left group.end
  pub begun : (c.machine.steps < c.machine.fuel) ⊎ (group.end ≡ Fuel)
  pub behind : StandsBehind p plan input first (c.count + cond (nat_lt c.machine.steps c.machine.fuel) 1 0) r group.end
