-- What a batch says that goes from stage to stage.
use Rattle.std.specs.Prelude.{◌≡◌, ◌+◌, ℕ, map, take}
use Rattle.dp_net.specs.NetPackets.{NetStatus, NetGoing, NetClosing, NetVoid}
use Rattle.dp_lean_epoch.specs.LeanBatch.{LeanItem, IsLeanBatch}
use Rattle.dp_lean_region.specs.LeanEpoch.{LeanEpoch, epoch_marks, kept_in, begin_in}
use Rattle.dp_lean_region.specs.Line.{IsLineOf}
use Rattle.dp_lean_machine.specs.Held.{held_in}
use Rattle.dp_lean_machine.specs.declared.batch.BatchStatus.{BatchStatus}
use Rattle.dp_lean_machine.specs.declared.batch.BatchStatus.TheVariants.{Going, Closing, Void, NoMemory}
use Rattle.dp_lean_machine.specs.declared.batch.LeanBatch.{LeanBatch}

-- the item, where the last of its iterations stands so: the columns of the first s stages
abbrev pub item_sent : ℕ → NetStatus → LeanBatch → LeanItem
item_sent s ends x = record { stages = map held_in (take s x.stages); stood = record { iterations = x.iterations; ends = ends }; version = x.version }

-- this is so of how a batch's last iteration stands, unless memory was wanting
abbrev pub Unless : BatchStatus → (NetStatus → Type 0) → Type 0
Unless Going P = P NetGoing
Unless Closing P = P NetClosing
Unless Void P = P NetVoid
Unless NoMemory P = Unit {0}

-- the last iteration stands so
abbrev pub AsStatus : BatchStatus → NetStatus → Type 0
AsStatus Going ends = ends ≡ NetGoing
AsStatus Closing ends = ends ≡ NetClosing
AsStatus Void ends = ends ≡ NetVoid
AsStatus NoMemory ends = ⊥

-- The batch is what stage s sends of the epoch's batch b, unless memory was wanting.
pub record IsSent (e : LeanEpoch) (s b : ℕ) (x : LeanBatch) : Type 0 where
  pub line : IsLineOf e x.line
  pub first : x.first ≡ e.key.first + begin_in e b
  pub item : Unless x.status (λ ends. IsLeanBatch (epoch_marks e) e.key (kept_in e) e.cap s b (item_sent s ends x))

-- Both tell the same of the same iterations; their versions and rooms may be others.
pub record SameTold (x y : LeanBatch) : Type 0 where
  pub line : y.line ≡ x.line
  pub first : y.first ≡ x.first
  pub iterations : y.iterations ≡ x.iterations
  pub status : y.status ≡ x.status
  pub stages : y.stages ≡ x.stages
