-- Stages that are ready to be run.
use Rattle.std.specs.Prelude.{◌≡◌, ℕ, List, [], take, get_or}
use Rattle.dp_plan.specs.Access.{first_site}
use Rattle.dp_lean_judge.specs.Locals.{local_cells}
use Rattle.dp_columns.specs.declared.ColumnKind.{ColumnKind}
use Rattle.dp_lean_turn.specs.Standing.{TurnIsReady}
use Rattle.dp_lean_region.specs.declared.line.ReadyStage.{ReadyStage}

-- it knows the cells of the region's body locals
abbrev pub HasLocals : ReadyStage → Type 0
HasLocals r = r.locals.now ≡ local_cells r.frame.plan.now.region r.frame.program.now.vars

-- its turns can be run over readers of columns of these kinds, into columns of those kinds
pub record CanRead (r : ReadyStage) (own : List ColumnKind) (read : List (List ColumnKind)) : Type 0 where
  pub first : r.frame.first ≡ first_site r.frame.program.now r.frame.plan.now
  pub ready : TurnIsReady r.frame r.ready
  pub own_is : own ≡ r.frame.kinds.own.now
  pub read_is : read ≡ r.frame.kinds.read.now

-- The stage at this place has its code ready, for columns of these kinds, and knows the cells of the region's body locals.
pub record IsStageReady (kinds : List (List ColumnKind)) (at : ℕ) (r : ReadyStage) : Type 0 where
  pub first : r.frame.first ≡ first_site r.frame.program.now r.frame.plan.now
  pub ready : TurnIsReady r.frame r.ready
  pub own : r.frame.kinds.own.now ≡ get_or kinds at []
  pub read : r.frame.kinds.read.now ≡ take at kinds
  pub locals : HasLocals r
