-- What holds of a machine at every moment.
use Rattle.std.specs.Prelude.{◌≡◌, ℕ, ◌≤◌, ◌<◌, ◌^◌, true, List, Option, Some, None}
use Rattle.dp_tree.specs.declared.Stmt.{Stmt}
use Rattle.dp_tree.specs.declared.Program.{Program}
use Rattle.dp_tree.specs.Inlined.{IsInlined}
use Rattle.dp_tree.specs.Numbering.{regions_in_order}
use Rattle.dp_tree.specs.InMain.{StandsInMain}
use Rattle.dp_tree.specs.Step.{Config}
use Rattle.dp_meaning.specs.declared.ends.Part.TheVariants.{Plain, Region}
use Rattle.dp_meaning.specs.MachineState.{part_of, from_region}

-- what is left of `main` where its next region has some number
abbrev pub IsOrdered : List Stmt → Type 0
IsOrdered to_do = (r : ℕ) × (regions_in_order r to_do ≡ true)

-- Some statements of a region's body are left to do, and then the region and what stands behind it in `main`.
pub record IsWithinRegion (region : ℕ) (to_do : List Stmt) : Type 0 where
  pub first : part_of to_do ≡ Plain
  pub next : part_of (from_region to_do) ≡ Region region
  pub ordered : IsOrdered (from_region to_do)

-- while an iteration is under way, the rest of its body is left to do; else statements of `main` alone
abbrev pub UnderWay : Option ℕ → List Stmt → Type 0
UnderWay None to_do = IsOrdered to_do
UnderWay (Some region) to_do = IsWithinRegion region to_do

pub record MachineIsSound (p : Program) (c : Config) (current : Option ℕ) (steps fuel : ℕ) : Type 0 where
  pub inlined : IsInlined p
  pub stands : StandsInMain p c
  pub under_way : UnderWay current c.to_do
  pub within : steps ≤ fuel
  pub fuel_fits : fuel < 2 ^ 64
