-- What an epoch is judged by.
use Rattle.std.specs.Prelude.{◌≡◌, List}
use Rattle.dp_tree.specs.declared.Program.{Program}
use Rattle.dp_plan.specs.declared.Plan.{Plan}
use Rattle.dp_semantics.specs.Judge.{last}
use Rattle.dp_lean_judge.specs.Locals.{local_cells}
use Rattle.dp_columns.specs.Left.{Left}
use Rattle.dp_lean_code.specs.Known.{paying_marks}
use Rattle.dp_lean_code.specs.LeanCode.{lean_code}
use Rattle.dp_lean_turn.specs.Left.{all_kinds}
use Rattle.dp_lean_judge.specs.Ready.{AllKept, JudgeIsReady}
use Rattle.dp_lean_region.specs.Region.{plan_kinds}
use Rattle.dp_lean_region.specs.declared.line.JudgeTables.{JudgeTables}

-- The judge's code is ready, for readers of the stages' columns, and the cells of the region's body locals are known.
pub record IsJudging (p : Program) (plan : Plan) (j : JudgeTables) : Type 0 where
  pub ready : JudgeIsReady p plan (lean_code p plan (last plan) (paying_marks p plan)) j.ready.now
  pub kept : (readers : List Left) → all_kinds readers ≡ plan_kinds p plan → AllKept readers j.ready.now.entries
  pub locals : j.locals.now ≡ local_cells plan.region p.vars
