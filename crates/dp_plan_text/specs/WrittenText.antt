-- The text of plans as it is written.
use Rattle.std.specs.Prelude.{ℕ, ◌+◌, ◌==◌, List, [], ◌∷◌, ◌++◌, map, filter}
use Rattle.std.specs.List.{flat_map}
use Rattle.dp_tree.specs.declared.Assume.{Assume}
use Rattle.dp_tree.specs.declared.Program.{Program}
use Rattle.dp_plan.specs.declared.StageKind.{StageKind}
use Rattle.dp_plan.specs.declared.Plan.{Plan}
use Rattle.dp_plan_text.specs.declared.line.Line.{Line}
use Rattle.dp_plan_text.specs.declared.line.Line.TheVariants as line
use Rattle.dp_plan.specs.Stage.{stage_of}
use Rattle.dp_plan.specs.Written.{written_of}
use Rattle.dp_plan.specs.declared.WrittenStage.{WrittenStage}
use Rattle.dp_plan.specs.GivenPlans.{plans_version}
use Rattle.dp_plan_text.specs.PlanText.{plan_line_bytes, region_lines, plan_lines}

-- the lines of the plans, each stage's sites in text order, and the assumptions as the plan has them
abbrev pub plans_text : Program → List Plan → List ℕ
plans_text p plans = flat_map plan_line_bytes (plan_lines (plans_version plans) (map (written_of p) plans))

-- a line's bytes
unfoldable pub plan_line_text : Line → List ℕ
plan_line_text l = plan_line_bytes l

-- the lines of one plan
unfoldable pub plan_text : Program → Plan → List ℕ
plan_text p plan = flat_map plan_line_bytes (region_lines (written_of p plan))

-- those of several
abbrev pub plan_texts : Program → List Plan → List ℕ
plan_texts p [] = []
plan_texts p (plan ∷ rest) = plan_text p plan ++ plan_texts p rest

-- those of these sites that are of stage k
abbrev pub sites_at : Program → Plan → ℕ → List ℕ → List ℕ
sites_at p plan k sites = filter (λ site. stage_of p plan site == k) sites

-- stage k with those of these sites that are its own
abbrev pub written_stage_at : Program → Plan → List ℕ → ℕ → StageKind → WrittenStage
written_stage_at p plan sites k kind = record { kind = kind; sites = sites_at p plan k sites }

-- the lines of stages of these kinds, from stage k on
abbrev pub stage_texts : Program → Plan → List ℕ → ℕ → List StageKind → List ℕ
stage_texts p plan sites k [] = []
stage_texts p plan sites k (kind ∷ rest) = plan_line_text (line.Stage (written_stage_at p plan sites k kind)) ++ stage_texts p plan sites (k + 1) rest

-- the lines of assumptions
abbrev pub assume_texts : List Assume → List ℕ
assume_texts [] = []
assume_texts (a ∷ rest) = plan_line_text (line.Assume a) ++ assume_texts rest
