-- What is so of a checkpoint of a program: its place, its memory, and the reports of the regions so far.
use Rattle.std.specs.Prelude.{◌≡◌, ℕ, suc, ◌^◌, ◌<◌, ◌≤◌, min, Bool, true, false, List, [], ◌∷◌, map, length, ℤ, pos, get_or}
use Rattle.dp_base.specs.Arithmetic.{fits}
use Rattle.dp_base.specs.declared.RegionReport.{RegionReport}
use Rattle.dp_base.specs.declared.limits.TheConstants.{FUEL, LISTED}
use Rattle.dp_text.specs.Each.{Each}
use Rattle.dp_tree.specs.declared.Program.{Program}
use Rattle.dp_tree.specs.declared.VarInfo.{VarInfo}
use Rattle.dp_tree.specs.declared.VarScope.{VarScope}
use Rattle.dp_tree.specs.declared.VarScope.TheVariants.{Global, Outer, Body}
use Rattle.dp_tree.specs.Numbering.{numbers_from}
use Rattle.dp_tree.specs.Trace.{start_cells}
use Rattle.dp_save.specs.declared.Checkpoint.{Checkpoint}

-- the region is one of the program, and the steps that were made are within the fuel
pub record PlaceFits (p : Program) (c : Checkpoint) : Type 0 where
  pub some_region : 1 ≤ c.region
  pub region_exists : c.region ≤ length p.regions
  pub region_numbered : c.region < 2 ^ 32
  pub few_after : c.after ≤ FUEL
  pub steps_within : c.steps ≤ c.fuel
  pub most_fuel : c.fuel ≤ FUEL

-- declared in the body of a region
abbrev pub is_body_scope : VarScope → Bool
is_body_scope (Body r) = true
is_body_scope Global = false
is_body_scope Outer = false

-- a variable of a region's body reads 0 between two iterations
abbrev pub BodyLocalIsZero : List ℤ → VarInfo → Type 0
BodyLocalIsZero cells x = is_body_scope x.scope ≡ true → get_or cells x.first.0 (pos 0) ≡ pos 0

-- there is a number of 64 bits for each cell of the program, and the locals of all regions' bodies are 0
pub record CellsFit (p : Program) (cells : List ℤ) : Type 0 where
  pub long : length cells ≡ length (start_cells p.vars)
  pub wide : Each (λ z. fits z ≡ true) cells
  pub locals : Each (BodyLocalIsZero cells) p.vars

-- the numbers ascend strictly, from `low` on and below `high`
abbrev pub AscendWithin : ℕ → ℕ → List ℕ → Type 0
AscendWithin low high [] = Unit {0}
AscendWithin low high (i ∷ rest) = (low ≤ i) × (i < high) × AscendWithin (suc i) high rest

-- no more iterations were executed again than were begun; the first of them are listed, without their causes
pub record ReportFits (r : RegionReport) : Type 0 where
  pub few : r.iterations ≤ FUEL
  pub again : r.recovered_count ≤ r.iterations
  pub listed : length r.recovered ≡ min r.recovered_count LISTED
  pub ascend : AscendWithin 0 r.iterations r.recovered
  pub uncaused : r.causes ≡ []

-- the report's region
abbrev pub reported_region : RegionReport → ℕ
reported_region r = r.region

-- the region in which the run was saved has as many iterations as were made of it
abbrev pub StopsHere : Checkpoint → RegionReport → Type 0
StopsHere c r = r.region ≡ c.region → r.iterations ≡ c.after

-- the reports are those of the first regions, in order
pub record ReportsFit (c : Checkpoint) : Type 0 where
  pub regions : map reported_region c.reports ≡ numbers_from 1 (length c.reports)
  pub each : Each ReportFits c.reports
  pub here : Each (StopsHere c) c.reports

-- the checkpoint is one of the program, with a report for each region up to its own
pub record Fits (p : Program) (c : Checkpoint) : Type 0 where
  pub place : PlaceFits p c
  pub cells : CellsFit p c.cells
  pub reports : ReportsFit c
  pub all : length c.reports ≡ c.region
