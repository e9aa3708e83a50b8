-- How far the lines of a region, and of all of them, were compared.
use Rattle.std.specs.Prelude.{◌≡◌, ◌≢◌, ◌⊎◌, ℕ, true, false, List, ◌++◌, drop, All, None}
use Rattle.dp_tree.specs.declared.Program.{Program}
use Rattle.dp_tree.specs.InMain.{StandsInMain}
use Rattle.dp_tree.specs.Step.{Config, Event}
use Rattle.dp_tree.specs.Trace.{Run}
use Rattle.dp_tree.specs.Iteration.{begun_count}
use Rattle.dp_plan.specs.declared.Plan.{Plan}
use Rattle.dp_meaning.specs.declared.ends.Part.TheVariants.{Plain, Region}
use Rattle.dp_meaning.specs.Continues.{Continues}
use Rattle.dp_meaning.specs.MachineState.{MachineState, part_of, rest_of_run}
use Rattle.dp_log.specs.LogText.{iterations_bytes, region_bytes, logged_regions, was_left}
use Rattle.dp_view.specs.Viewed.{Viewed, begun}
use Rattle.dp_auditor.specs.Comparing.{Compared, PassesPiece, Fails}
use Rattle.dp_auditor.specs.Regions.{AtRegion, SameRun}
use Rattle.dp_auditor.specs.declared.iterations.After.{After}
use Rattle.dp_auditor.specs.declared.iterations.After.TheVariants.{Left, Ends, Differs}
use Rattle.dp_auditor.specs.declared.parts.Walked.{Walked}
use Rattle.dp_auditor.specs.declared.parts.Walked.TheVariants as walked

-- The region comes next for one machine, another one has the same steps before it, and what is kept begins there.
pub record StartsAtRegion (ahead behind : MachineState) (v : Viewed) : Type 0 where
  pub at : AtRegion v.program v.plan ahead
  pub trace : (rest_of_run behind).trace ≡ (rest_of_run ahead).trace
  pub steps : behind.steps ≡ ahead.steps
  pub kept : v ≡ begun v.program v.plan ahead.config.cells

-- no other region's condition is the next evaluation
abbrev pub IsInside : ℕ → Config → Type 0
IsInside r c = (part_of c.to_do ≡ Region r) ⊎ (part_of c.to_do ≡ Plain)

-- The machine stands behind region r, which it left, and reached no other one on the way.
pub record LeavesRegion (p : Program) (r : ℕ) (old new : MachineState) : Type 0 where
  pub events : List Event
  pub configs : List Config
  pub piece : Continues (rest_of_run old) events configs (rest_of_run new)
  pub inside : All (IsInside r) configs
  pub same : SameRun old new
  pub stands : StandsInMain p new.config
  pub between : new.current ≡ None
  pub rest : new.config.to_do ≡ drop 1 old.config.to_do

-- No region but r is begun.
abbrev pub OnlyBegins : ℕ → Run → Type 0
OnlyBegins r run = (q : ℕ) → q ≢ r → begun_count run q ≡ 0

-- The lines of all begun iterations were compared, up to where the region was left or the run has ended, or one differs.
abbrev pub IterationsCompared : Program → Plan → MachineState → MachineState → Compared → Compared → After → Type 0
IterationsCompared p plan first last old new Left =
    PassesPiece old new (iterations_bytes p plan (rest_of_run first) 0 (begun_count (rest_of_run first) plan.region))
    × (was_left (rest_of_run first) plan.region ≡ true) × LeavesRegion p plan.region first last
IterationsCompared p plan first last old new (Ends end) =
    PassesPiece old new (iterations_bytes p plan (rest_of_run first) 0 (begun_count (rest_of_run first) plan.region))
    × (was_left (rest_of_run first) plan.region ≡ false) × OnlyBegins plan.region (rest_of_run first) × ((rest_of_run first).end ≡ end)
IterationsCompared p plan first last old new (Differs line) =
    (later : List ℕ) → Fails old (iterations_bytes p plan (rest_of_run first) 0 (begun_count (rest_of_run first) plan.region) ++ later) line

-- .. and those of the region
abbrev pub RegionCompared : Program → Plan → MachineState → MachineState → Compared → Compared → After → Type 0
RegionCompared p plan first last old new Left = PassesPiece old new (region_bytes p plan (rest_of_run first)) × LeavesRegion p plan.region first last
RegionCompared p plan first last old new (Ends end) = PassesPiece old new (region_bytes p plan (rest_of_run first)) × OnlyBegins plan.region (rest_of_run first)
    × ((rest_of_run first).end ≡ end)
RegionCompared p plan first last old new (Differs line) = (later : List ℕ) → Fails old (region_bytes p plan (rest_of_run first) ++ later) line

-- .. and those of all regions, up to the run's end
abbrev pub AllCompared : Program → List Plan → Run → Compared → Compared → Walked → Type 0
AllCompared p plans run old new (walked.Whole end) = PassesPiece old new (logged_regions p plans run) × (run.end ≡ end)
AllCompared p plans run old new (walked.Differs line) = (later : List ℕ) → Fails old (logged_regions p plans run ++ later) line
