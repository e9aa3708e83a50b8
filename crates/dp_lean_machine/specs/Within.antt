-- A stage within a batch, between two iterations, and what came of them.
use Rattle.std.specs.Prelude.{◌≡◌, ◌<◌, ◌≤◌, ◌⊎◌, ℕ, suc, ◌+◌, ◌-◌, true, List, ℤ, map, length}
use Rattle.dp_tree.specs.Numbering.{numbers_from}
use Rattle.dp_lean.specs.Queues.{Told}
use Rattle.dp_columns.specs.declared.ColumnKind.{ColumnKind}
use Rattle.dp_columns.specs.Columned.{Columned}
use Rattle.dp_columns.specs.Left.{Left}
use Rattle.dp_lean_turn.specs.declared.Turn.{Turn}
use Rattle.dp_lean_turn.specs.Left.{AreLeft}
use Rattle.dp_lean_turn.specs.Notes.{kinds_of}
use Rattle.dp_lean_epoch.specs.Own.{at_stage, own_steps}
use Rattle.dp_lean_epoch.specs.Coming.{QueuesBring, LeanStands}
use Rattle.dp_lean_epoch.specs.Holding.{Kept, HoldsTold, columns_filled}
use Rattle.dp_lean_epoch.specs.LeanBatch.{Stood}
use Rattle.dp_lean_epoch.specs.LeanBatch as batch
use Rattle.dp_lean_epoch.specs.Steps.{keeps_memory}
use Rattle.dp_lean_region.specs.LeanEpoch.{LeanEpoch, IsLeanEpoch, epoch_marks, kept_by_kinds, begin_in, size_in}
use Rattle.dp_lean_machine.specs.Sent.{Unless}
use Rattle.dp_lean_machine.specs.declared.turning.Ran.{Ran}
use Rattle.dp_lean_machine.specs.declared.turning.TurnEnd.{TurnEnd}
use Rattle.dp_lean_machine.specs.declared.turning.TurnEnd.TheVariants.{Goes, Closes, Void, NoMemory}
use Rattle.dp_lean_machine.specs.declared.batch.BatchStatus.TheVariants as status
use Rattle.dp_lean_machine.specs.declared.batch.StageColumns.{StageColumns as Columns}

-- all that columns hold, to be read
abbrev pub all_left : Columned → Left
all_left k = record { kinds = k.kinds; told = k.told; loads = k.loads }

-- .. those of a stage
abbrev pub read_of : Columns → Left
read_of c = all_left c.columns

-- stage s + 1 within batch b
module _ (e : LeanEpoch) (s b : ℕ) where
  abbrev pub own_kinds : List ColumnKind
  own_kinds = kinds_of e.kinds (suc s)

  -- what its columns keep
  abbrev pub kept_own : Kept
  kept_own = kept_by_kinds e own_kinds

  -- the batch's iteration at this place goes through both stages in the same way
  abbrev pub PassesOn : ℕ → Type 0
  PassesOn i = (at_stage (epoch_marks e) e.key (suc s) (begin_in e b + i)).packet.status ≡ (at_stage (epoch_marks e) e.key s (begin_in e b + i)).packet.status

  -- Of n iterations that came the stage has run the first j, and told of them.
  pub record Within {M : Type 0} (cells : M → List ℤ) (n j : ℕ) (t : Turn M) (steps : List ℕ) : Type 0 where
    pub memory : (keeps_memory e.key.program e.key.plan (suc s) ≡ true) ⊎ (j ≡ 0) →
        LeanStands (epoch_marks e) e.key (suc s) (begin_in e b + j) (cells t.memory)
    pub queues : (queues more : ℕ → List Told) × AreLeft e.key.program e.key.plan t.readers queues
        × QueuesBring (epoch_marks e) e.key s (begin_in e b + j) (n - j) queues more
    pub own : t.teller.own ≡ columns_filled (epoch_marks e) e.key kept_own own_kinds (suc s) (begin_in e b) j
    pub counts : steps ≡ map (own_steps (epoch_marks e) e.key (suc s)) (numbers_from (begin_in e b) j)
    pub same : (i : ℕ) → i < j → PassesOn i

  -- So many iterations stand at the stage as these do, and its columns hold them.
  pub record IsHeld (own : Columned) (steps : List ℕ) (x : Stood) : Type 0 where
    pub stands : batch.IterationsStand (epoch_marks e) e.key (suc s) (begin_in e b) (size_in e b) x
    pub holds : HoldsTold (epoch_marks e) e.key kept_own (suc s) (begin_in e b) x.iterations (record { columns = own; steps = steps })

  -- n iterations came with these columns of the earlier stages, whose queues begin with what they told
  pub record ComesWithColumns (n : ℕ) (earlier : List Columns) : Type 0 where
    pub queues : ℕ → List Told
    pub more : ℕ → List Told
    pub left : AreLeft e.key.program e.key.plan (map read_of earlier) queues
    pub coming : QueuesBring (epoch_marks e) e.key s (begin_in e b) n queues more

  -- what came of them at the stage, unless memory was wanting; where they all go on, the stage stands behind them
  abbrev pub IsDone : {M : Type 0} → (M → List ℤ) → Ran → Columns → M → Type 0
  IsDone cells ran own memory =
      Unless ran.status (λ ends. IsHeld own.columns own.steps (record { iterations = ran.iterations; ends = ends }))
      × (ran.status ≡ status.Going → keeps_memory e.key.program e.key.plan (suc s) ≡ true →
      LeanStands (epoch_marks e) e.key (suc s) (begin_in e b + size_in e b) (cells memory))

  -- .. of a turn
  abbrev pub IsRan : {M : Type 0} → (M → List ℤ) → Turn M → List ℕ → Ran → Type 0
  IsRan cells t steps ran = IsDone cells ran (record { columns = t.teller.own; steps = steps }) t.memory

  -- So many iterations came, as the stage before sends them.
  pub record IsCame (came : Stood) : Type 0 where
    pub epoch : IsLeanEpoch e
    pub within : suc s ≤ length e.key.plan.stages
    pub stands : batch.IterationsStand (epoch_marks e) e.key s (begin_in e b) (size_in e b) came

  -- what one more iteration comes to, of those that came
  abbrev pub ComesTo : {M : Type 0} → (M → List ℤ) → Stood → ℕ → Turn M → List ℕ → TurnEnd → Type 0
  ComesTo cells came j t steps Goes = Within cells came.iterations (suc j) t steps
  ComesTo cells came j t steps Closes = IsRan cells t steps (record { iterations = suc j; status = status.Closing })
  ComesTo cells came j t steps Void = IsRan cells t steps (record { iterations = j; status = status.Void })
  ComesTo cells came j t steps NoMemory = Unit {0}
