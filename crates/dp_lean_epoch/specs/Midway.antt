-- Where a stage and the judge stand within a batch: what a loop over its iterations keeps.
use Rattle.std.specs.Prelude.{◌≡◌, ◌≤◌, ◌+◌, ◌-◌, ℕ, suc, false, true, List, [], ◌∷◌, ◌++◌, ℤ, length, map, nat_le, sum_by}
use Rattle.dp_tree.specs.Numbering.{numbers_from}
use Rattle.dp_tree.specs.Eval.{Load}
use Rattle.dp_plan.specs.Access.{first_site}
use Rattle.dp_semantics.specs.EpochKey.{EpochKey}
use Rattle.dp_semantics.specs.EpochVerdicts.{verdict_at, state_at}
use Rattle.dp_net.specs.NetItems.{Marks}
use Rattle.dp_net.specs.NetPackets.{NetGoing, NetVoid, net_status_of}
use Rattle.dp_net.specs.NetVerdicts.{GoesOnTo, SaysTheSame}
use Rattle.dp_lean.specs.Queues.{Told, steps_in}
use Rattle.dp_lean.specs.LeanTurn.{LeanTurn, LeanEnd, Arrived, BrokenOff}
use Rattle.dp_lean.specs.LeanJudge.{LeanJudging, LeanJudgement, Holds, JudgesIn, lean_judging}
use Rattle.dp_columns.specs.declared.ColumnKind.{ColumnKind}
use Rattle.dp_columns.specs.Telling.{put_items}
use Rattle.dp_lean_epoch.specs.Own.{at_stage, Arrives, own_steps, steps_at}
use Rattle.dp_lean_epoch.specs.Coming.{QueuesBring, LoadsComing, LeanStands, LeanJudges}
use Rattle.dp_lean_epoch.specs.Holding as holding
use Rattle.dp_lean_epoch.specs.Holding.{Kept, StageColumns, columns_filled}
use Rattle.dp_lean_epoch.specs.Steps.{keeps_memory, without_locals, CodeEnds}
use Rattle.dp_lean_epoch.specs.JudgeSteps.{lean_verdict_by}
use Rattle.dp_lean_epoch.specs.Laws.{Onward}

module _ (m : Marks) (key : EpochKey) where
  module _ (kept : Kept) (kinds : List ColumnKind) where
    -- the columns with what a turn told, and its number of steps
    abbrev pub with_turn : StageColumns → LeanTurn → StageColumns
    with_turn c f = record {
      columns = put_items (first_site key.program key.plan) kept.told kept.loads f.turn.own c.columns;
      steps = c.steps ++ sum_by steps_in f.turn.own ∷ [];
    }

    -- Behind i iterations from the k-th on, which all go on at stage s + 1, and before j others, of which the earlier stages tell.
    pub record Midway (s k i j : ℕ) (queues more : ℕ → List Told) (memory : List ℤ) (c : StageColumns) : Type 0 where
      pub onward : Onward m key (suc s) k i
      pub coming : QueuesBring m key s (k + i) j queues more
      pub stands : LeanStands m key (suc s) (k + i) memory
      pub columns : c.columns ≡ columns_filled m key kept kinds (suc s) k i
      pub steps : c.steps ≡ map (own_steps m key (suc s)) (numbers_from k i)

    -- The next one came to its end: its columns hold it, and where it goes on and the stage keeps its memory, all stands behind it.
    pub record Further (s k i j : ℕ) (more : ℕ → List Told) (c : StageColumns) (f : LeanTurn) : Type 0 where
      pub status : (at_stage m key (suc s) (k + i)).packet.status ≡ net_status_of (at_stage m key s (k + i)).packet.status f.turn.closing
      pub holds : holding.HoldsTold m key kept (suc s) k (suc i) (with_turn c f)
      pub memory : keeps_memory key.program key.plan (suc s) ≡ true → LeanStands m key (suc s) (k + suc i) (without_locals m key f.turn.cells)
      pub onward : (at_stage m key (suc s) (k + i)).packet.status ≡ NetGoing → keeps_memory key.program key.plan (suc s) ≡ true →
          Midway s k (suc i) j f.queues more (without_locals m key f.turn.cells) (with_turn c f)

    -- .. or its turn broke off
    abbrev pub GoesFurther : (s k i j : ℕ) → (ℕ → List Told) → StageColumns → LeanEnd → Type 0
    GoesFurther s k i j more c (Arrived f) = Further s k i j more c f
    GoesFurther s k i j more c BrokenOff = (at_stage m key (suc s) (k + i)).packet.status ≡ NetVoid

    -- From there the code of the stage comes to an end, by which it goes further.
    abbrev pub MidwaySteps : Type 0
    MidwaySteps = (s k i j : ℕ) → suc s ≤ length key.plan.stages → Arrives m key s (k + i) →
        (queues more : ℕ → List Told) (memory : List ℤ) (c : StageColumns) →
        Midway s k i (suc j) queues more memory c →
        (end : LeanEnd) × CodeEnds m key (suc s) memory queues end × GoesFurther s k i j more c end

  -- The judge behind i iterations from the k-th on, whose verdicts go on, and before j others.
  pub record JudgeMidway (k i j : ℕ) (queues more : ℕ → List Told) (loads more_loads : ℕ → List (List Load)) (memory : List ℤ) (steps : ℕ) : Type 0 where
    pub goes : GoesOnTo key (k + i)
    pub coming : QueuesBring m key (length key.plan.stages) (k + i) j queues more
    pub loads_coming : LoadsComing m key (k + i) j loads more_loads
    pub stands : LeanJudges key (k + i) memory
    pub counted : steps ≡ (state_at key (k + i)).steps

  -- The verdict on the next one is decided by the judging, and by whether its steps are within what is left of the fuel;
  -- and where it is committed and doesn't close, all stands behind it.
  pub record JudgesFurther (k i j : ℕ) (more : ℕ → List Told) (more_loads : ℕ → List (List Load)) (steps : ℕ) (end : LeanJudgement) : Type 0 where
    pub verdict : SaysTheSame key (verdict_at key (k + i)) (lean_verdict_by m key (k + i) (nat_le (steps_at m key (k + i)) (key.fuel - steps)) end)
    pub onward : (f : LeanJudging) → end ≡ Holds f → steps_at m key (k + i) ≤ key.fuel - steps → f.turn.turn.closing ≡ false →
        JudgeMidway k (suc i) j f.turn.queues more f.loads more_loads (without_locals m key f.turn.turn.cells) (steps + steps_at m key (k + i))

  -- From there the judging comes to an end, by which it goes further.
  abbrev pub JudgeMidwaySteps : Type 0
  JudgeMidwaySteps = (k i j : ℕ) → Arrives m key (length key.plan.stages) (k + i) → (queues more : ℕ → List Told) (loads more_loads : ℕ → List (List Load))
      (memory : List ℤ) (steps : ℕ) → JudgeMidway k i (suc j) queues more loads more_loads memory steps →
      (end : LeanJudgement) × JudgesIn key.program key.plan m
      (lean_judging key.program key.plan m memory queues loads) end × JudgesFurther k i j more more_loads steps end
