-- What goes from one stage to the next of a batch: columns, how many iterations they tell of, how the last one stands, and a memory for workers.
use Rattle.std.specs.Prelude.{◌≡◌, ◌<◌, ◌≤◌, ℕ, suc, ◌+◌, ◌-◌, if◌then◌else◌, true, List, [], ◌∷◌, ℤ, length, Option, Some, None, get_or, slice_get, sum_by}
use Rattle.dp_tree.specs.Eval.{Load}
use Rattle.dp_plan.specs.Access.{stage_of, is_replicated}
use Rattle.dp_semantics.specs.EpochKey.{EpochKey}
use Rattle.dp_net.specs.NetItems.{Marks}
use Rattle.dp_net.specs.NetPackets.{NetStatus, NetGoing, NetClosing, NetVoid, NetPacket}
use Rattle.dp_net.specs.Batches.{batch_begin, batch_at}
use Rattle.dp_net.specs.Follows.{is_void}
use Rattle.dp_lean.specs.Queues.{Told}
use Rattle.dp_columns.specs.Columned.{nothing_kept}
use Rattle.dp_lean_epoch.specs.Own.{at_stage}
use Rattle.dp_lean_epoch.specs.Coming.{LeanStands}
use Rattle.dp_lean_epoch.specs.Holding.{Kept, StageColumns, column_place, HoldsTold}

-- how many iterations of a batch came to their end, and how its last one stands: where that is void, it is the one behind these
pub record Stood : Type 0 where
  pub iterations : ℕ
  pub ends : NetStatus

-- one iteration that stands so, in front of others
abbrev pub stood_by : NetStatus → Stood → Stood
stood_by NetGoing rest = record { iterations = suc rest.iterations; ends = rest.ends }
stood_by NetClosing rest = record { iterations = 1; ends = NetClosing }
stood_by NetVoid rest = record { iterations = 0; ends = NetVoid }

-- .. of the packets of a batch
abbrev pub stood_in : List NetPacket → Stood
stood_in [] = record { iterations = 0; ends = NetGoing }
stood_in (packet ∷ rest) = stood_by packet.status (stood_in rest)

-- what is sent of a batch: the columns of the stages so far, the first stage's first, how its iterations stand,
-- and the memory with which the workers of a replicated stage that follows begin it
pub record LeanItem : Type 0 where
  pub stages : List StageColumns
  pub stood : Stood
  pub version : Option (List ℤ)

-- columns where nothing is
abbrev pub no_columns : StageColumns
no_columns = record { columns = nothing_kept []; steps = [] }

-- the columns of stage t
abbrev pub columns_of : List StageColumns → ℕ → StageColumns
columns_of stages t = get_or stages (t - 1) no_columns

-- the queue of a site in the columns of its stage
abbrev pub queue_among : EpochKey → List StageColumns → ℕ → List Told
queue_among key stages y = get_or (columns_of stages (stage_of key.program key.plan y)).columns.told (column_place key y) []

-- .. and of its loads
abbrev pub loads_among : EpochKey → List StageColumns → ℕ → List (List Load)
loads_among key stages y = get_or (columns_of stages (stage_of key.program key.plan y)).columns.loads (column_place key y) []

-- the number of steps of all stages at the i-th iteration
abbrev pub steps_among : List StageColumns → ℕ → ℕ
steps_among stages i = sum_by (λ (c : StageColumns). get_or c.steps i 0) stages

module _ (m : Marks) (key : EpochKey) where
  -- a memory with which workers of stage s may begin the n-th iteration
  abbrev pub IsVersion : ℕ → ℕ → Option (List ℤ) → Type 0
  IsVersion s n (Some memory) = LeanStands m key s n memory
  IsVersion s n None = ⊥

  -- So r iterations from the k-th on stand at stage s, up to and with the first that doesn't go on: each that came to its end goes on, but for the last.
  pub record IterationsStand (s k r : ℕ) (x : Stood) : Type 0 where
    pub within : x.iterations ≤ r
    pub going : (i : ℕ) → suc i < x.iterations → (at_stage m key s (k + i)).packet.status ≡ NetGoing
    pub at_end : (i : ℕ) → suc i ≡ x.iterations → (at_stage m key s (k + i)).packet.status ≡ (if is_void x.ends then NetGoing else x.ends)
    pub whole : x.ends ≡ NetGoing → x.iterations ≡ r
    pub closing : x.ends ≡ NetClosing → 0 < x.iterations
    pub void : x.ends ≡ NetVoid → (x.iterations < r) × ((at_stage m key s (k + x.iterations)).packet.status ≡ NetVoid)

module _ (m : Marks) (key : EpochKey) (kept : Kept) where
  -- The item is what stage s sends of batch b. An earlier stage's columns may hold more iterations than came to their end here.
  pub record IsLeanBatch (cap s b : ℕ) (item : LeanItem) : Type 0 where
    pub size : length item.stages ≡ s
    pub stood : item.stood ≡ stood_in (batch_at m key cap s b)
    pub holds : (t : ℕ) (c : StageColumns) → slice_get item.stages t ≡ Some c → HoldsTold m key kept (suc t) (batch_begin key cap b) item.stood.iterations c
    pub version : is_replicated key.plan (suc s) ≡ true → IsVersion m key (suc s) (batch_begin key cap b) item.version
