-- The stages of an epoch.
use Rattle.std.specs.Prelude.{◌≡◌, ℕ, suc, List, ℤ}
use Rattle.dp_tree.specs.declared.Program.{Program}
use Rattle.dp_plan.specs.declared.Plan.{Plan}
use Rattle.dp_net.specs.Hidden.{pays_off}
use Rattle.dp_columns.specs.declared.ColumnKind.{ColumnKind}
use Rattle.dp_lean_code.specs.LeanCode.{lean_code}
use Rattle.dp_lean_turn.specs.Notes.{kinds_of}
use Rattle.dp_lean_turn.specs.Standing.{AreHidden}
use Rattle.dp_lean_region.specs.LeanEpoch.{LeanEpoch, epoch_marks}
use Rattle.dp_lean_region.specs.Region.{plan_kinds}
use Rattle.dp_lean_region.specs.declared.line.Line.{Line}
use Rattle.dp_lean_region.specs.declared.line.ReadyStage.{ReadyStage}

module _ (line : Line) where
  -- the line's program, its plan, and how many iterations go together at most
  abbrev pub line_program : Program
  line_program = line.region.now.program

  abbrev pub line_plan : Plan
  line_plan = line.region.now.plan

  abbrev pub cap_of : ℕ
  cap_of = line.region.now.cap

  -- the kinds of each stage's columns
  abbrev pub line_kinds : List (List ColumnKind)
  line_kinds = plan_kinds line_program line_plan

-- The stage at this place runs its code in the epoch, for columns of its kinds.
pub record RunsIn (e : LeanEpoch) (at : ℕ) (r : ReadyStage) : Type 0 where
  pub program : r.frame.program.now ≡ e.key.program
  pub plan : r.frame.plan.now ≡ e.key.plan
  pub input : r.frame.input.now ≡ e.key.input
  pub code : r.frame.code.now ≡ lean_code e.key.program e.key.plan (suc at) (epoch_marks e)
  pub kinds : r.frame.kinds.own.now ≡ kinds_of e.kinds (suc at)
  pub hidden : AreHidden r.frame (epoch_marks e)

-- The epoch is one of the pipeline of this program and plan, with this input.
pub record IsEpochOf (e : LeanEpoch) (p : Program) (under : Plan) (words : List ℤ) : Type 0 where
  pub program : p ≡ e.key.program
  pub plan : under ≡ e.key.plan
  pub input : words ≡ e.key.input
  pub pays : e.pays ≡ pays_off e.key.program e.key.plan
  pub kinds : e.kinds ≡ plan_kinds e.key.program e.key.plan

-- The line is that of the epoch.
abbrev pub IsLineOf : LeanEpoch → Line → Type 0
IsLineOf e line = IsEpochOf e (line_program line) (line_plan line) line.input.now
