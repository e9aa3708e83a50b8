-- The packets that the stages of an epoch send, iteration by iteration.
use Rattle.std.specs.Prelude.{ℕ, if◌then◌else◌, zero, suc, Bool, true, false, List, [], ◌∷◌, ◌++◌, ℤ, Option, Some, None, Ok, Err, slice_get}
use Rattle.dp_base.specs.declared.Word.{Word}
use Rattle.dp_tree.specs.declared.Program.{Program}
use Rattle.dp_plan.specs.declared.Plan.{Plan}
use Rattle.dp_plan.specs.declared.StageKind.{StageKind}
use Rattle.dp_plan.specs.declared.StageKind.TheVariants.{Par}
use Rattle.dp_tree.specs.Step.{clear_locals}
use Rattle.dp_plan.specs.Access.{is_replicated}
use Rattle.dp_semantics.specs.Words.{Void}
use Rattle.dp_semantics.specs.StageRun.{TurnEnd, stage_run}

-- going on, closing the region, or void since this stage's turn broke off
pub data Status : Type 0 where
  Going : Status
  Closing : Status
  Broken : (stage : ℕ) (why : Void) → Status

-- the words of the stages so far, the first stage's first, and a memory for a replicated stage that follows
pub record Packet : Type 0 where
  pub lists : List (List Word)
  pub status : Status
  pub version : Option (List ℤ)

-- a stage at an iteration: the packet that it sends, and its memory before and after
pub record Passed : Type 0 where
  pub packet : Packet
  pub before : List ℤ
  pub after : List ℤ

-- what the packets of an epoch depend on; the base is the memory where the epoch begins
pub record Epoch : Type 0 where
  pub program : Program
  pub plan : Plan
  pub input : List ℤ
  pub base : List ℤ

-- a packet stays what it is, but that a going one closes after a closing turn
abbrev pub status_of : Status → Bool → Status
status_of Going true = Closing
status_of Going false = Going
status_of Closing closing = Closing
status_of (Broken s why) closing = Broken s why

-- a sequential stage before a replicated one sends along the memory that it had before the iteration
abbrev pub version_of : Epoch → ℕ → List ℤ → Option (List ℤ)
version_of key s before = if is_replicated key.plan s then None else if is_replicated key.plan (suc s) then Some before else None

-- after a turn from this memory on a packet that came; where the turn broke off, the packet keeps its lists
abbrev pub passed_by : Epoch → ℕ → List ℤ → Packet → TurnEnd → Passed
passed_by key s before came (Ok e) = record {
  packet = record { lists = came.lists ++ e.own ∷ []; status = status_of came.status e.closing; version = version_of key s before };
  before = before;
  after = e.cells;
}
passed_by key s before came (Err why) =
    record { packet = record { lists = came.lists; status = Broken s why; version = None }; before = before; after = before }

-- a void packet goes on unchanged, any other one after the turn
abbrev pub passed_on : Epoch → ℕ → List ℤ → Packet → TurnEnd → Status → Passed
passed_on key s before came turn (Broken t why) = record { packet = came; before = before; after = before }
passed_on key s before came turn Going = passed_by key s before came turn
passed_on key s before came turn Closing = passed_by key s before came turn

-- stage s from this memory on a packet that came
abbrev pub run_on : Epoch → ℕ → List ℤ → Packet → Passed
run_on key s before came = passed_on key s before came (stage_run key.program key.plan key.input s before came.lists) came.status

-- the memory with the region's body locals at 0
abbrev pub cleared : Epoch → List ℤ → List ℤ
cleared key cells = clear_locals key.plan.region key.program.vars cells

-- a sequential stage starts from the base, and then from its own memory after the iteration before; `came` gives the stage before it
abbrev pub at_sequential : Epoch → ℕ → (ℕ → Passed) → ℕ → Passed
at_sequential key s came zero = run_on key s key.base (came zero).packet
at_sequential key s came (suc n) = run_on key s (cleared key (at_sequential key s came n).after) (came (suc n)).packet

-- a replicated stage starts from the memory that the stage before it had before the iteration
abbrev pub at_replicated : Epoch → ℕ → (ℕ → Passed) → ℕ → Passed
at_replicated key s came n = run_on key s (came n).before (came n).packet

-- .. by its kind
abbrev pub at_kind : Option StageKind → Epoch → ℕ → (ℕ → Passed) → ℕ → Passed
at_kind (Some Par) key s came n = at_replicated key s came n
at_kind _ key s came n = at_sequential key s came n

-- the packet that comes to stage 1
abbrev pub fresh : Epoch → Passed
fresh key = record { packet = record { lists = []; status = Going; version = None }; before = key.base; after = key.base }

-- stage s at the n-th iteration of the epoch; stage 0 stands for what comes to stage 1
abbrev pub passed : Epoch → ℕ → ℕ → Passed
passed key zero n = fresh key
passed key (suc s) n = at_kind (slice_get key.plan.stages s) key (suc s) (passed key s) n
