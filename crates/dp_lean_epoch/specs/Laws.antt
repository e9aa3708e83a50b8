-- The laws of an epoch whose stages send columns, but for those of a step.
use Rattle.std.specs.Prelude.{◌≡◌, ◌≤◌, ◌<◌, ◌+◌, ℕ, suc, Bool, true, false, List, [], ◌∷◌, ◌++◌, ℤ, length, map, Option, None}
use Rattle.std.specs.List.{flat_map}
use Rattle.dp_tree.specs.declared.Stmt.{Stmt}
use Rattle.dp_tree.specs.declared.Program.{Program}
use Rattle.dp_tree.specs.Eval.{Load}
use Rattle.dp_plan.specs.declared.Plan.{Plan}
use Rattle.dp_plan.specs.Access.{first_site, is_replicated}
use Rattle.dp_tree.specs.Numbering.{numbers_from}
use Rattle.dp_semantics.specs.EpochKey.{EpochKey}
use Rattle.dp_net.specs.NetItems.{Marks}
use Rattle.dp_net.specs.NetPackets.{NetGoing, NetClosing, NetVoid}
use Rattle.dp_net.specs.Hidden.{marks_of}
use Rattle.dp_net.specs.Batches.{batch_begin, batch_size, batch_at}
use Rattle.dp_lean.specs.Queues.{Told}
use Rattle.dp_columns.specs.declared.ColumnKind.{ColumnKind}
use Rattle.dp_columns.specs.Telling.{put_items}
use Rattle.dp_lean_epoch.specs.Own.{at_stage, Arrives, own_items, own_steps, steps_at, told_upto, loads_upto}
use Rattle.dp_lean_epoch.specs.Coming.{Brought, QueuesBring, LoadsBrought, LoadsComing, LeanStands, LeanJudges}
use Rattle.dp_lean_epoch.specs.Holding.{Kept, StageColumns, KeepsEnough, HoldsTold, HavePlaces, QueuesGrown, columns_filled}
use Rattle.dp_lean_epoch.specs.Steps.{keeps_memory, lean_cap}
use Rattle.dp_lean_epoch.specs.LeanBatch.{Stood, stood_in, LeanItem, queue_among, loads_among, steps_among, IsVersion, IsLeanBatch, IterationsStand}

-- So it is in each epoch of the program and the plan, whichever runs of quiet statements are taken for blocks.
abbrev pub InEpochs : (Marks → EpochKey → Type 0) → Program → Plan → Type 0
InEpochs law p plan = (key : EpochKey) → key.program ≡ p → key.plan ≡ plan → (pays : List Stmt → Bool) → law (marks_of key.program key.plan pays) key

-- the item with the next stage's columns behind those that came
abbrev pub with_columns : LeanItem → StageColumns → Stood → Option (List ℤ) → LeanItem
with_columns item c stood version = record { stages = item.stages ++ c ∷ []; stood = stood; version = version }

-- what comes to stage 1 of a batch of so many iterations
abbrev pub fresh_item : ℕ → LeanItem
fresh_item size = record { stages = []; stood = record { iterations = size; ends = NetGoing }; version = None }

module _ (m : Marks) (key : EpochKey) where
  -- In the base memory each stage and the judge stand at the epoch's first iteration.
  pub record EpochBegins : Type 0 where
    pub stages : (s : ℕ) → LeanStands m key s 0 key.base
    pub judge : LeanJudges key 0 key.base

  -- The iterations of a batch stand at a stage as is said of them one by one, and in no other way. Those that came to their end aren't void.
  pub record BatchStands (cap s b : ℕ) : Type 0 where
    pub each : IterationsStand m key s (batch_begin key cap b) (batch_size key cap b) (stood_in (batch_at m key cap s b))
    pub only : (x : Stood) → IterationsStand m key s (batch_begin key cap b) (batch_size key cap b) x → x ≡ stood_in (batch_at m key cap s b)
    pub arrive : (i : ℕ) → i < (stood_in (batch_at m key cap s b)).iterations → Arrives m key s (batch_begin key cap b + i)

  -- the first i of the iterations from the k-th on go on at stage s
  abbrev pub Onward : ℕ → ℕ → ℕ → Type 0
  Onward s k i = (h : ℕ) → h < i → (at_stage m key s (k + h)).packet.status ≡ NetGoing

  -- So a batch ends at a stage behind iterations that go on: it is whole, or the next one closes, or is void.
  pub record BatchEnds (s k r : ℕ) : Type 0 where
    pub whole : Onward s k r → IterationsStand m key s k r (record { iterations = r; ends = NetGoing })
    pub closing : (i : ℕ) → i < r → Onward s k i → (at_stage m key s (k + i)).packet.status ≡ NetClosing →
        IterationsStand m key s k r (record { iterations = suc i; ends = NetClosing })
    pub void : (i : ℕ) → i < r → Onward s k i → (at_stage m key s (k + i)).packet.status ≡ NetVoid →
        IterationsStand m key s k r (record { iterations = i; ends = NetVoid })

  -- Where several iterations come, the first of them does, and behind it the others.
  pub record ComeOneByOne (s k j : ℕ) : Type 0 where
    pub told : (queues more : ℕ → List Told) → QueuesBring m key s k (suc j) queues more →
        Brought m key s k queues (λ y. flat_map (told_upto m key s y) (numbers_from (k + 1) j) ++ more y)
    pub loads : (loads more : ℕ → List (List Load)) → LoadsComing m key k (suc j) loads more →
        LoadsBrought m key k loads (λ y. flat_map (loads_upto m key (length key.plan.stages) y) (numbers_from (k + 1) j) ++ more y)

  module _ (kept : Kept) where
    -- what comes to stage 1
    abbrev pub FreshBatch : Type 0
    FreshBatch = (cap b : ℕ) → IsLeanBatch m key kept cap 0 b (fresh_item (batch_size key cap b))

    -- The columns that came, with the next stage's behind them, are what that stage sends, if its own hold the iterations that came to their end there.
    abbrev pub BatchesExtend : Type 0
    BatchesExtend = (cap s b : ℕ) (item : LeanItem) → IsLeanBatch m key kept cap s b item → (c : StageColumns) (x : Stood) (version : Option (List ℤ)) →
        IterationsStand m key (suc s) (batch_begin key cap b) (batch_size key cap b) x → HoldsTold m key kept (suc s) (batch_begin key cap b) x.iterations c →
        (is_replicated key.plan (suc (suc s)) ≡ true → IsVersion m key (suc (suc s)) (batch_begin key cap b) version) →
        IsLeanBatch m key kept cap (suc s) b (with_columns item c x version)

    -- Something is sent of each batch by each stage, where the columns have places for what they keep.
    abbrev pub BatchesAre : List ColumnKind → Type 0
    BatchesAre kinds = HavePlaces m key kept kinds → (cap s b : ℕ) → (item : LeanItem) × IsLeanBatch m key kept cap s b item

    -- The queues of what is sent of a batch begin with what its iterations tell, one after the other.
    pub record QueuesCome (cap s b : ℕ) (item : LeanItem) : Type 0 where
      pub told : (more : ℕ → List Told) × QueuesBring m key s (batch_begin key cap b) item.stood.iterations (queue_among key item.stages) more
      pub loads : s ≡ length key.plan.stages →
          (more : ℕ → List (List Load)) × LoadsComing m key (batch_begin key cap b) item.stood.iterations (loads_among key item.stages) more
      pub steps : s ≡ length key.plan.stages → (i : ℕ) → i < item.stood.iterations → steps_among item.stages i ≡ steps_at m key (batch_begin key cap b + i)

    -- .. where the columns keep what is read
    abbrev pub BatchesCome : Type 0
    BatchesCome = KeepsEnough m key kept → (cap s b : ℕ) (item : LeanItem) → IsLeanBatch m key kept cap s b item → QueuesCome cap s b item

    -- Own items, put iteration after iteration into empty columns, are held there; so are those of a front of the iterations; and more may stand behind.
    pub record ColumnsFill (kinds : List ColumnKind) : Type 0 where
      pub further : (t k j : ℕ) →
          put_items (first_site key.program key.plan) kept.told kept.loads (own_items m key t (k + j)) (columns_filled m key kept kinds t k j)
          ≡ columns_filled m key kept kinds t k (suc j)
      pub steps : (t k j : ℕ) →
          map (own_steps m key t) (numbers_from k j) ++ own_steps m key t (k + j) ∷ []
          ≡ map (own_steps m key t) (numbers_from k (suc j))
      pub holds : (t k j : ℕ) → 0 < t →
          HoldsTold m key kept t k j (record { columns = columns_filled m key kept kinds t k j; steps = map (own_steps m key t) (numbers_from k j) })
      pub front : (t k i j : ℕ) → i ≤ j → (c : StageColumns) → HoldsTold m key kept t k j c → HoldsTold m key kept t k i c
      pub grown : (t k j : ℕ) (c d : StageColumns) → HoldsTold m key kept t k j c → QueuesGrown c.columns d.columns → c.steps ≡ d.steps →
          HoldsTold m key kept t k j d

  -- A batch has at most one iteration where some stage doesn't keep its memory.
  pub record BatchesAreKept : Type 0 where
    pub cap : (cap s : ℕ) → keeps_memory key.program key.plan s ≡ false → lean_cap key.program key.plan cap ≤ 1
    pub single : (cap b : ℕ) → cap ≤ 1 → batch_size key cap b ≤ 1
