-- What the tables of a region hold.
use Rattle.std.specs.Prelude.{◌≡◌, ℕ, suc, List, [], ℤ, length, take, Some, get_or, slice_get}
use Rattle.dp_base.specs.declared.CellId.{CellId}
use Rattle.dp_tree.specs.declared.Program.{Program}
use Rattle.dp_plan.specs.declared.Plan.{Plan}
use Rattle.dp_plan.specs.Access.{first_site}
use Rattle.dp_semantics.specs.Judge.{last}
use Rattle.dp_lean_judge.specs.Locals.{local_cells}
use Rattle.dp_columns.specs.declared.ColumnKind.{ColumnKind}
use Rattle.dp_columns.specs.Left.{Left}
use Rattle.dp_lean_turn.specs.Left.{all_kinds}
use Rattle.dp_lean_code.specs.Known.{paying_marks}
use Rattle.dp_lean_code.specs.LeanCode.{lean_code}
use Rattle.dp_lean_turn.specs.declared.Kinds.{Kinds}
use Rattle.dp_lean_turn.specs.Standing.{AreHidden}
use Rattle.dp_lean_turn.specs.Standing as standing
use Rattle.dp_lean_judge.specs.Ready.{AllKept, JudgeIsReady}
use Rattle.dp_lean_region.specs.Region.{IsCap, IsFitting, plan_kinds}
use Rattle.dp_lean_turn.specs.Made.{AreTurnTables}
use Rattle.dp_lean_region.specs.declared.line.ReadyStage.{ReadyStage}
use Rattle.dp_lean_region.specs.declared.stages.StageTables.{StageTables}
use Rattle.dp_lean_region.specs.declared.judging.JudgeMade.{JudgeMade}

module _ (p : Program) (plan : Plan) where
  -- the code of the stage at this place, with the tables that were made of it, where these are the kinds of all stages
  pub record IsStage (kinds : List (List ColumnKind)) (at : ℕ) (t : StageTables) : Type 0 where
    pub code : t.code.ops ≡ lean_code p plan (suc at) (paying_marks p plan)
    pub of : Kinds
    pub tables : AreTurnTables p plan of t.code.ops t.turn
    pub own : of.own.now ≡ get_or kinds at []
    pub read : of.read.now ≡ take at kinds

  abbrev pub AreStages : List (List ColumnKind) → List StageTables → Type 0
  AreStages kinds stages = (at : ℕ) (t : StageTables) → slice_get stages at ≡ Some t → IsStage kinds at t

  -- .. one for each of the plan's stages
  pub record AreAllStages (kinds : List (List ColumnKind)) (stages : List StageTables) : Type 0 where
    pub count : length stages ≡ length plan.stages
    pub each : AreStages kinds stages

  -- the judge's code, which can read what is kept, and how many iterations go together
  pub record IsJudgeMade (j : JudgeMade) : Type 0 where
    pub ready : JudgeIsReady p plan (lean_code p plan (last plan) (paying_marks p plan)) j.ready
    pub kept : (readers : List Left) → all_kinds readers ≡ plan_kinds p plan → AllKept readers j.ready.entries
    pub cap : IsCap p plan j.cap

  -- what all tables of a region are
  pub record IsRegion (first : ℕ) (kinds : List (List ColumnKind)) (stages : List StageTables) (locals : List CellId) (j : JudgeMade) : Type 0 where
    pub fitting : IsFitting p plan
    pub condition : first ≡ first_site p plan
    pub columns : kinds ≡ plan_kinds p plan
    pub all : AreAllStages kinds stages
    pub body : locals ≡ local_cells plan.region p.vars
    pub judge : IsJudgeMade j

  -- the stage at a place, ready for an input
  pub record IsStaged (kinds : List (List ColumnKind)) (at : ℕ) (input : List ℤ) (locals : List CellId) (r : ReadyStage) : Type 0 where
    pub program : r.frame.program.now ≡ p
    pub under : r.frame.plan.now ≡ plan
    pub words : r.frame.input.now ≡ input
    pub code : r.frame.code.now ≡ lean_code p plan (suc at) (paying_marks p plan)
    pub own : r.frame.kinds.own.now ≡ get_or kinds at []
    pub read : r.frame.kinds.read.now ≡ take at kinds
    pub first : r.frame.first ≡ first_site p plan
    pub ready : standing.TurnIsReady r.frame r.ready
    pub hidden : AreHidden r.frame (paying_marks p plan)
    pub body : r.locals.now ≡ locals
