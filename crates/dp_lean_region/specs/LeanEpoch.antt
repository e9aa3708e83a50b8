-- An epoch of a pipeline of columns, and what is known of it.
use Rattle.std.specs.Prelude.{◌≡◌, ◌<◌, ◌≤◌, ℕ, suc, Bool, true, false, List, length}
use Rattle.dp_tree.specs.declared.Stmt.{Stmt}
use Rattle.dp_plan.specs.Access.{stage_of, is_replicated}
use Rattle.dp_plan.specs.Checked.{is_checked}
use Rattle.dp_semantics.specs.EpochKey.{EpochKey}
use Rattle.dp_net.specs.NetItems.{Marks}
use Rattle.dp_net.specs.Hidden.{marks_of}
use Rattle.dp_net.specs.Batches.{batch_begin, batch_size}
use Rattle.dp_columns.specs.declared.ColumnKind.{ColumnKind}
use Rattle.dp_lean_turn.specs.Notes.{kind_at, kinds_of}
use Rattle.dp_lean_turn.specs.Told.{keeps_something}
use Rattle.dp_lean_judge.specs.Laws.{IsJudgeCode}
use Rattle.dp_lean_epoch.specs.Holding.{Kept, column_place, KeepsEnough, HavePlaces}
use Rattle.dp_lean_epoch.specs.Steps.{keeps_memory, StageSteps, WorkersBegin, VoidStays}
use Rattle.dp_lean_epoch.specs.JudgeSteps.{JudgeSteps, VoidsRecover}
use Rattle.dp_lean_epoch.specs.Midway.{MidwaySteps, JudgeMidwaySteps}
use Rattle.dp_lean_epoch.specs.Laws.{BatchStands, BatchEnds, BatchesAreKept, ComeOneByOne, FreshBatch, BatchesExtend, BatchesCome, ColumnsFill}

-- the epoch, which runs of quiet statements are taken for blocks, the kinds of each stage's columns, and how many iterations go together at most
pub record LeanEpoch : Type 0 where
  pub key : EpochKey
  pub pays : List Stmt → Bool
  pub kinds : List (List ColumnKind)
  pub cap : ℕ

module _ (e : LeanEpoch) where
  abbrev pub epoch_marks : Marks
  epoch_marks = marks_of e.key.program e.key.plan e.pays

  -- the place of batch b's first iteration, and how many iterations it may have
  abbrev pub begin_in : ℕ → ℕ
  begin_in b = batch_begin e.key e.cap b

  abbrev pub size_in : ℕ → ℕ
  size_in b = batch_size e.key e.cap b

  -- what columns of these kinds keep
  abbrev pub kept_by_kinds : List ColumnKind → Kept
  kept_by_kinds kinds = record { told = λ y. keeps_something (kind_at kinds (column_place e.key y)); loads = λ y. is_checked e.key.program e.key.plan y }

  -- .. and those of the stages do, each of its own sites
  abbrev pub kept_in : Kept
  kept_in = record {
    told = λ y. keeps_something (kind_at (kinds_of e.kinds (stage_of e.key.program e.key.plan y)) (column_place e.key y));
    loads = λ y. is_checked e.key.program e.key.plan y;
  }

  -- what is so of the stages' steps, and of what they send
  pub record HasLaws : Type 0 where
    pub steps : StageSteps epoch_marks e.key
    pub workers : WorkersBegin epoch_marks e.key
    pub voids : VoidStays epoch_marks e.key
    pub stand : (s b : ℕ) → BatchStands epoch_marks e.key e.cap s b
    pub ends : (s k r : ℕ) → BatchEnds epoch_marks e.key s k r
    pub few : BatchesAreKept epoch_marks e.key
    pub fresh : FreshBatch epoch_marks e.key kept_in
    pub extend : BatchesExtend epoch_marks e.key kept_in
    pub come : BatchesCome epoch_marks e.key kept_in
    pub one_by_one : (s k j : ℕ) → ComeOneByOne epoch_marks e.key s k j
    pub fill : (kept : Kept) (kinds : List ColumnKind) → HavePlaces epoch_marks e.key kept kinds → ColumnsFill epoch_marks e.key kept kinds
    pub midway : (kept : Kept) (kinds : List ColumnKind) → HavePlaces epoch_marks e.key kept kinds → MidwaySteps epoch_marks e.key kept kinds

  -- .. and of the judge's, whose code says what the lean judging says
  pub record HasJudgeLaws : Type 0 where
    pub steps : JudgeSteps epoch_marks e.key
    pub voids : VoidsRecover epoch_marks e.key
    pub midway : JudgeMidwaySteps epoch_marks e.key
    pub code : IsJudgeCode e.key.program e.key.plan epoch_marks

  -- The columns keep what is read, and have a place for each checked site. Batches have one iteration where a stage's workers
  -- can't go on with the memory that they left. No replicated stage follows another one.
  pub record IsLeanEpoch : Type 0 where
    pub laws : HasLaws
    pub enough : KeepsEnough epoch_marks e.key kept_in
    pub places : (s : ℕ) → suc s ≤ length e.key.plan.stages → (y : ℕ) → is_checked e.key.program e.key.plan y ≡ true →
        column_place e.key y < length (kinds_of e.kinds (suc s))
    pub single : (s : ℕ) → keeps_memory e.key.program e.key.plan s ≡ false → e.cap ≤ 1
    pub apart : (s : ℕ) → is_replicated e.key.plan s ≡ true → is_replicated e.key.plan (suc s) ≡ false
