-- A region from start to end: where it may begin, and where the machine stands when it has ended.
use Rattle.std.specs.Prelude.{◌≡◌, ◌≢◌, ℕ, suc, ◌+◌, ◌<◌, true, false, List, [], ℤ, drop, length, map, None}
use Rattle.dp_tree.specs.declared.Program.{Program}
use Rattle.dp_tree.specs.InMain.{StandsInMain}
use Rattle.dp_tree.specs.Step.{Config}
use Rattle.dp_tree.specs.Trace.{Run, prints}
use Rattle.dp_tree.specs.Iteration.{starts, begun_count, is_closing, has_ended}
use Rattle.dp_tree.specs.IterationLaws.{events_of_first}
use Rattle.dp_plan.specs.declared.Plan.{Plan}
use Rattle.dp_meaning.specs.declared.ends.Part.TheVariants.{Region}
use Rattle.dp_meaning.specs.Continues.{Continues}
use Rattle.dp_meaning.specs.MachineState.{MachineState, next_part, rest_of_run}
use Rattle.dp_meaning.specs.Moved.{FaultsNext, HasSpentFuel}
pub use Rattle.dp_commit.specs.CommittedState.{region_run}
pub use Rattle.dp_prepared.specs.Planned.{IsPlanned}
use Rattle.dp_epoch.specs.declared.ends.RegionEnd.{RegionEnd}
use Rattle.dp_epoch.specs.declared.ends.RegionEnd.TheVariants.{Closed, Fault, Fuel}

-- what the begun iterations of region r print, one iteration after the other
abbrev pub region_prints : Run → ℕ → List ℤ
region_prints run r = prints (events_of_first run r (begun_count run r))

-- The machine is one of the program and the input, the plan's region comes next, and no step was made in it.
pub record RegionStart (p : Program) (plan : Plan) (input : List ℤ) (first : MachineState) : Type 0 where
  pub program_is : first.program ≡ p
  pub input_is : first.input ≡ input
  pub stands : StandsInMain p first.config
  pub next : next_part first ≡ Region plan.region
  pub between : first.current ≡ None
  pub sound : first.spoiled ≡ false

-- a place in the rest of a run, counted from the run's own start
abbrev pub beyond : ℕ → ℕ → ℕ
beyond made k = made + k

-- The region's begun iterations were made, and nothing else: the machine stands behind their steps, and no other region was reached by then.
pub record RegionMade (p : Program) (plan : Plan) (first last : MachineState) : Type 0 where
  pub configs : List Config
  pub piece : Continues (region_run first) (events_of_first (region_run first) plan.region (begun_count (region_run first) plan.region))
      configs (rest_of_run last)
  pub steps : last.steps ≡ first.steps + length (events_of_first (region_run first) plan.region (begun_count (region_run first) plan.region))
  pub others : (q : ℕ) → q ≢ plan.region →
      starts (region_run first) q ≡ map (beyond (length (events_of_first (region_run first) plan.region (begun_count (region_run first) plan.region))))
      (starts (rest_of_run last) q)
  pub program : last.program ≡ first.program
  pub input : last.input ≡ first.input
  pub fuel : last.fuel ≡ first.fuel
  pub stands : StandsInMain p last.config
  pub sound : last.spoiled ≡ false

-- The last begun iteration left the region, and what is left is what stands behind it.
pub record RegionClosed (plan : Plan) (first last : MachineState) : Type 0 where
  pub iteration : ℕ
  pub is_last : begun_count (region_run first) plan.region ≡ suc iteration
  pub closing : is_closing (region_run first) plan.region iteration ≡ true
  pub left : last.config.to_do ≡ drop 1 first.config.to_do
  pub between : last.current ≡ None

-- The source's run ends in the region: the iteration after those that ended doesn't end, and no other region is reached.
pub record RegionStops (plan : Plan) (first : MachineState) : Type 0 where
  pub iteration : ℕ
  pub unended : has_ended (region_run first) plan.region iteration ≡ false
  pub before : (i : ℕ) → i < iteration → has_ended (region_run first) plan.region i ≡ true
  pub others : (q : ℕ) → q ≢ plan.region → starts (region_run first) q ≡ []

-- how the region ends
abbrev pub RegionEnds : Plan → MachineState → MachineState → RegionEnd → Type 0
RegionEnds plan first last Closed = RegionClosed plan first last
RegionEnds plan first last (Fault fault) = RegionStops plan first × FaultsNext last fault
RegionEnds plan first last Fuel = RegionStops plan first × HasSpentFuel last

-- The region ran from the one machine to the other, and ended so.
pub record RegionRan (p : Program) (plan : Plan) (first last : MachineState) (end : RegionEnd) : Type 0 where
  pub made : RegionMade p plan first last
  pub ends : RegionEnds plan first last end
