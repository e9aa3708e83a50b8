-- How many units run an epoch.
use Rattle.std.specs.Prelude.{ℕ, ◌+◌, List, [], ◌∷◌}
use Rattle.dp_plan.specs.declared.Plan.{Plan}
use Rattle.dp_plan.specs.declared.StageKind.{StageKind}
use Rattle.dp_plan.specs.declared.StageKind.TheVariants.{Seq, Par}

-- a stage of this kind
abbrev pub unit_count_of : ℕ → StageKind → ℕ
unit_count_of workers Seq = 1
unit_count_of workers Par = workers

-- .. stages one behind the other
abbrev pub unit_count_all : ℕ → List StageKind → ℕ
unit_count_all workers [] = 0
unit_count_all workers (kind ∷ rest) = unit_count_of workers kind + unit_count_all workers rest

-- .. all stages, and the try-commit unit behind them
abbrev pub unit_count : ℕ → Plan → ℕ
unit_count workers plan = unit_count_all workers plan.stages + 1
