-- How far a machine has brought a run of a program: between two parts, or to its end.
use Rattle.std.specs.Prelude.{◌≡◌, ◌≢◌, ℕ, suc, ◌+◌, ◌-◌, ◌≤◌, ◌<◌, Bool, List, [], ◌++◌, ℤ, length, take, map, false, Option, Some, None}
use Rattle.dp_base.specs.declared.End.{End}
use Rattle.dp_base.specs.declared.End.TheVariants as how
use Rattle.dp_base.specs.declared.RegionReport.{RegionReport}
use Rattle.dp_tree.specs.declared.Program.{Program}
use Rattle.dp_tree.specs.Numbering.{numbers_from}
use Rattle.dp_tree.specs.Step.{Config, Event}
use Rattle.dp_tree.specs.InMain.{StandsInMain}
use Rattle.dp_tree.specs.Trace.{Run, run_of, prints}
use Rattle.dp_tree.specs.Iteration.{start, starts, cells_after}
use Rattle.dp_plan.specs.declared.Plan.{Plan}
use Rattle.dp_meaning.specs.declared.ends.Part.TheVariants.{Plain}
use Rattle.dp_meaning.specs.Continues.{Continues}
use Rattle.dp_meaning.specs.MachineState.{MachineState, next_part, rest_of_run}
use Rattle.dp_report.specs.PrintsText.{prints_bytes}
use Rattle.dp_edge.specs.Writing.{WritesFront}
use Rattle.dp_epoch.specs.declared.ends.RegionEnd.{RegionEnd}
use Rattle.dp_epoch.specs.declared.ends.RegionEnd.TheVariants.{Closed, Fault, Fuel}
use Rattle.dp_epoch.specs.RegionRun.{beyond}
use Rattle.dp_run.specs.Given.{AreNext}
use Rattle.dp_run.specs.RunText.{told_reports, committed_in_all}
use Rattle.dp_run.specs.Regions.{regions_left}

-- The run begins with some steps and goes on as the rest does; no region from number k on was reached in them.
pub record HasPassed (run rest : Run) (k : ℕ) : Type 0 where
  pub events : List Event
  pub configs : List Config
  pub piece : Continues run events configs rest
  pub ahead : (r : ℕ) → k ≤ r → starts run r ≡ map (beyond (length events)) (starts rest r)

-- It is a run of the program on the input, within the fuel, from some place of `main` on.
pub record RunsFrom (p : Program) (input : List ℤ) (fuel : ℕ) (run : Run) : Type 0 where
  pub from : Config
  pub steps : ℕ
  pub stands : StandsInMain p from
  pub within : steps ≤ fuel
  pub run_is : run ≡ run_of p input steps from

-- The machine stands in such a run behind region n, in the plain part that follows or at its end.
pub record Behind (p : Program) (input : List ℤ) (fuel : ℕ) (run : Run) (n : ℕ) (m : MachineState) : Type 0 where
  pub begins : RunsFrom p input fuel run
  pub program_is : m.program ≡ p
  pub input_is : m.input ≡ input
  pub fuel_is : m.fuel ≡ fuel
  pub passed : HasPassed run (rest_of_run m) (suc n)
  pub left : regions_left m.config.to_do ≡ numbers_from (suc n) (length p.regions - n)
  pub between : m.current ≡ None
  pub sound : m.spoiled ≡ false

-- .. and at its end
pub record Between (p : Program) (input : List ℤ) (fuel : ℕ) (run : Run) (n : ℕ) (m : MachineState) : Type 0 where
  pub behind : Behind p input fuel run n m
  pub over : next_part m ≢ Plain

-- The run has ended where the machine stands, and no region behind region n was reached.
pub record Over (run : Run) (n : ℕ) (m : MachineState) (end : End) : Type 0 where
  pub end_is : run.end ≡ end
  pub no_step : (rest_of_run m).trace ≡ []
  pub cells_are : cells_after run (length run.trace) ≡ m.config.cells
  pub unreached : (r : ℕ) → n < r → starts run r ≡ []

-- where a part leads that began behind region n: to the next part, or to the run's end
abbrev pub Leads : Program → List ℤ → ℕ → Run → ℕ → MachineState → Option End → Type 0
Leads p input fuel run n m None = Between p input fuel run n m
Leads p input fuel run n m (Some end) = Over run n m end

-- what is still to be printed
abbrev pub to_come : MachineState → List ℤ
to_come m = prints (rest_of_run m).trace

-- Prints wait, and others are to come. Of none was written that comes behind a start of an iteration of a region from number k on:
-- a front of the text of those before it was.
pub record FrontBefore (k : ℕ) (waiting : List ℤ) (m : MachineState) (told tells : Option (List ℕ)) : Type 0 where
  pub front : (r i j : ℕ) → k ≤ r → start (rest_of_run m) r i ≡ Some j →
      WritesFront (prints_bytes (waiting ++ prints (take j (rest_of_run m).trace))) told tells

-- The first n of these plans' regions have these reports, with causes where `why` asks for them, behind those of before, and so many of their iterations were
-- counted.
pub record Counted (why : Bool) (p : Program) (plans : List Plan) (run : Run) (n : ℕ) (told reports : List RegionReport) (before now : ℕ) : Type 0 where
  pub reports_are : reports ≡ told ++ told_reports why p (take n plans) run
  pub tally_is : now ≡ before + committed_in_all p (take n plans) run

-- Behind region n the regions of these plans come next, and the machine stands behind region n.
pub record Ahead (p : Program) (plans : List Plan) (input : List ℤ) (fuel : ℕ) (run : Run) (n : ℕ) (m : MachineState) : Type 0 where
  pub next : AreNext p n plans
  pub behind : Behind p input fuel run n m

-- The run went on by the first of these plans' regions, which have their reports: by all of them, or to its end.
pub record Went (why : Bool) (p : Program) (plans : List Plan) (input : List ℤ) (fuel : ℕ) (run : Run) (n : ℕ) (m : MachineState) (end : Option End)
    (told reports : List RegionReport) (before now : ℕ) : Type 0 where
  pub count : ℕ
  pub within : count ≤ length plans
  pub all : end ≡ None → count ≡ length plans
  pub leads : Leads p input fuel run (n + count) m end
  pub counted : Counted why p plans run count told reports before now

-- the end of a run that went by all regions of its program, or to this end
abbrev pub ended_by : Option End → End
ended_by None = how.Done
ended_by (Some end) = end

-- what is so behind region n that ended so
abbrev pub AfterRegion : Program → List ℤ → ℕ → Run → ℕ → MachineState → RegionEnd → Type 0
AfterRegion p input fuel run n m Closed = Behind p input fuel run n m
AfterRegion p input fuel run n m (Fault fault) = Over run n m (how.Fault fault)
AfterRegion p input fuel run n m Fuel = Over run n m how.Fuel
