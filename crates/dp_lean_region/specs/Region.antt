-- A program with a plan for one of its regions, and the epochs of that region.
use Rattle.std.specs.Prelude.{◌≡◌, ◌≤◌, ℕ, true, false, List, length, map}
use Rattle.dp_tree.specs.declared.Program.{Program}
use Rattle.dp_tree.specs.Inlined.{IsInlined}
use Rattle.dp_tree.specs.Numbering.{numbers_from}
use Rattle.dp_plan.specs.declared.Plan.{Plan}
use Rattle.dp_plan.specs.CheckedTable.{IsTabled}
use Rattle.dp_semantics.specs.Fits.{fits_plan}
use Rattle.dp_semantics.specs.EpochKey.{EpochKey}
use Rattle.dp_net.specs.Hidden.{pays_off}
use Rattle.dp_lean_judge.specs.Stages.{HasStages}
use Rattle.dp_columns.specs.declared.ColumnKind.{ColumnKind}
use Rattle.dp_lean_code.specs.Known.{paying_marks}
use Rattle.dp_lean_epoch.specs.Steps.{keeps_memory}
use Rattle.dp_lean_kinds.specs.ColumnKinds.{region_kinds}
use Rattle.dp_lean_region.specs.LeanEpoch.{LeanEpoch}

-- what the tables of a region are of: how many of its iterations go together at most is told too
pub record LeanRegion : Type 0 where
  pub program : Program
  pub plan : Plan
  pub cap : ℕ

-- an inlined program, and a plan that fits its region, with a right table of checked sites
pub record IsFitting (p : Program) (plan : Plan) : Type 0 where
  pub inlined : IsInlined p
  pub fits : fits_plan p plan ≡ true
  pub tabled : IsTabled p plan
  pub stages : HasStages p plan

module _ (p : Program) (plan : Plan) where
  -- the kinds of each stage's columns
  abbrev pub plan_kinds : List (List ColumnKind)
  plan_kinds = map (region_kinds p plan (paying_marks p plan)) (numbers_from 1 (length plan.stages))

  -- so many iterations may go together
  pub record IsCap (cap : ℕ) : Type 0 where
    pub some : 1 ≤ cap
    pub most : cap ≤ 64
    pub single : (s : ℕ) → keeps_memory p plan s ≡ false → cap ≤ 1

-- the epoch of the plan's pipeline
abbrev pub lean_epoch : EpochKey → ℕ → LeanEpoch
lean_epoch key cap = record { key = key; pays = pays_off key.program key.plan; kinds = plan_kinds key.program key.plan; cap = cap }
