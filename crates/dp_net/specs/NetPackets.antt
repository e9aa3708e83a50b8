-- The packets of items that the stages of an epoch send, iteration by iteration.
use Rattle.std.specs.Prelude.{ℕ, zero, suc, Bool, true, false, List, [], ◌∷◌, ◌++◌, ℤ, Option, Some, None, slice_get}
use Rattle.dp_plan.specs.declared.StageKind.{StageKind}
use Rattle.dp_plan.specs.declared.StageKind.TheVariants.{Par}
use Rattle.dp_semantics.specs.Packets.{Epoch, version_of, cleared}
use Rattle.dp_net.specs.NetItems.{Marks, Item}
use Rattle.dp_net.specs.NetRun.{NetEnded, net_run}

-- going on, closing the region, or void since a stage's turn broke off
pub data NetStatus : Type 0 where
  NetGoing : NetStatus
  NetClosing : NetStatus
  NetVoid : NetStatus

-- the items of the stages so far, the first stage's first, and a memory for a replicated stage that follows
pub record NetPacket : Type 0 where
  pub lists : List (List Item)
  pub status : NetStatus
  pub version : Option (List ℤ)

-- a stage at an iteration: the packet that it sends, and its memory before and after
pub record NetPassed : Type 0 where
  pub packet : NetPacket
  pub before : List ℤ
  pub after : List ℤ

-- a packet stays what it is, but that a going one closes after a closing turn
abbrev pub net_status_of : NetStatus → Bool → NetStatus
net_status_of NetGoing true = NetClosing
net_status_of NetGoing false = NetGoing
net_status_of NetClosing closing = NetClosing
net_status_of NetVoid closing = NetVoid

module _ (m : Marks) (key : Epoch) where
  -- after a turn from this memory on a packet that came; where the turn broke off, the packet keeps its lists
  abbrev pub net_passed_by : ℕ → List ℤ → NetPacket → Option NetEnded → NetPassed
  net_passed_by s before came (Some e) = record {
    packet = record { lists = came.lists ++ e.own ∷ []; status = net_status_of came.status e.closing; version = version_of key s before };
    before = before;
    after = e.cells;
  }
  net_passed_by s before came None =
      record { packet = record { lists = came.lists; status = NetVoid; version = None }; before = before; after = before }

  -- a void packet goes on unchanged, any other one after the turn
  abbrev pub net_passed_on : ℕ → List ℤ → NetPacket → Option NetEnded → NetStatus → NetPassed
  net_passed_on s before came turn NetVoid = record { packet = came; before = before; after = before }
  net_passed_on s before came turn NetGoing = net_passed_by s before came turn
  net_passed_on s before came turn NetClosing = net_passed_by s before came turn

  -- stage s from this memory on a packet that came
  abbrev pub net_run_on : ℕ → List ℤ → NetPacket → NetPassed
  net_run_on s before came = net_passed_on s before came (net_run key.program key.plan m key.input s before came.lists) came.status

  -- a sequential stage starts from the base, and then from its own memory after the iteration before; `came` gives the stage before it
  abbrev pub net_at_sequential : ℕ → (ℕ → NetPassed) → ℕ → NetPassed
  net_at_sequential s came zero = net_run_on s key.base (came zero).packet
  net_at_sequential s came (suc n) = net_run_on s (cleared key (net_at_sequential s came n).after) (came (suc n)).packet

  -- .. and a replicated one from the memory that the stage before it had before the iteration
  abbrev pub net_at_kind : Option StageKind → ℕ → (ℕ → NetPassed) → ℕ → NetPassed
  net_at_kind (Some Par) s came n = net_run_on s (came n).before (came n).packet
  net_at_kind _ s came n = net_at_sequential s came n

  -- the packet that comes to stage 1
  abbrev pub net_fresh : NetPassed
  net_fresh = record { packet = record { lists = []; status = NetGoing; version = None }; before = key.base; after = key.base }

  -- stage s at the n-th iteration of the epoch; stage 0 stands for what comes to stage 1
  abbrev pub net_passed : ℕ → ℕ → NetPassed
  net_passed zero n = net_fresh
  net_passed (suc s) n = net_at_kind (slice_get key.plan.stages s) (suc s) (net_passed s) n
