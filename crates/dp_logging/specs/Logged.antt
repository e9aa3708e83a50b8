-- How far a region was brought for its log.
use Rattle.std.specs.Prelude.{ℕ, suc, List, ℤ, Option, Some, None}
use Rattle.dp_tree.specs.declared.Program.{Program}
use Rattle.dp_plan.specs.declared.Plan.{Plan}
use Rattle.dp_meaning.specs.MachineState.{MachineState}
use Rattle.dp_epoch.specs.declared.ends.RegionEnd.{RegionEnd}
use Rattle.dp_epoch.specs.RegionRun.{RegionRan}
use Rattle.dp_audit.specs.declared.runner.Runner.{Runner}
use Rattle.dp_audit.specs.Runs.{RegionStands}

-- where the region stands behind iteration n: the next one comes, or it has ended so
abbrev pub Logged : Program → Plan → List ℤ → MachineState → ℕ → Runner → Option RegionEnd → Type 0
Logged p plan input first n r None = RegionStands p plan input first (suc n) r
Logged p plan input first n r (Some end) = RegionRan p plan first r.ledger.committed.machine end
