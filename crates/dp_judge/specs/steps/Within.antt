-- The judging within a batch, between two iterations.
use Rattle.std.specs.Prelude.{◌≡◌, ◌<◌, ◌≤◌, ◌+◌, ◌-◌, ℕ, suc, List, ℤ, length, map}
use Rattle.dp_base.specs.declared.Cause.{Cause}
use Rattle.dp_tree.specs.Eval.{Load}
use Rattle.dp_semantics.specs.EpochVerdicts.{Again, verdict_at}
use Rattle.dp_semantics.specs.Judge.{last}
use Rattle.dp_net.specs.NetVerdicts.{GoesOnTo}
use Rattle.dp_lean_judge.specs.Locals.{local_cells}
use Rattle.dp_judge.specs.declared.verdict.Verdict.{Verdict}
use Rattle.dp_lean.specs.Queues.{Told}
use Rattle.dp_lean_code.specs.LeanCode.{lean_code}
use Rattle.dp_columns.specs.Left.{Left}
use Rattle.dp_lean_judge.specs.Ready.{JudgeIsReady}
use Rattle.dp_lean_judge.specs.Shown.{ShowsQueues}
use Rattle.dp_lean_epoch.specs.Own.{Arrives, steps_at}
use Rattle.dp_lean_epoch.specs.Coming.{QueuesBring, LoadsComing}
use Rattle.dp_lean_epoch.specs.LeanBatch.{steps_among}
use Rattle.dp_lean_region.specs.LeanEpoch.{LeanEpoch, IsLeanEpoch, HasJudgeLaws, epoch_marks, begin_in, size_in}
use Rattle.dp_lean_region.specs.declared.line.JudgeTables.{JudgeTables}
use Rattle.dp_lean_machine.specs.Held.{held_in}
use Rattle.dp_lean_machine.specs.declared.batch.StageColumns.{StageColumns}
use Rattle.dp_judge.specs.Verdicts.{AreTold, JudgingStands, EachGoesOn}
use Rattle.dp_judge.specs.declared.judging.Decision.{Decision}
use Rattle.dp_judge.specs.declared.judging.Decision.TheVariants.{Goes, Closes, Unclean, NoMemory}

-- The judge's code of the epoch is ready, and the cells of the region's body locals are known.
pub record JudgesBy (e : LeanEpoch) (tables : JudgeTables) : Type 0 where
  pub ready : JudgeIsReady e.key.program e.key.plan (lean_code e.key.program e.key.plan (last e.key.plan) (epoch_marks e)) tables.ready.now
  pub locals : tables.locals.now ≡ local_cells e.key.plan.region e.key.program.vars

module _ (e : LeanEpoch) (b : ℕ) where
  -- n iterations of batch b came to their end in all stages, which counted their steps
  pub record CameIn (n : ℕ) (stages : List StageColumns) : Type 0 where
    pub epoch : IsLeanEpoch e
    pub laws : HasJudgeLaws e
    pub few : n ≤ size_in e b
    pub arrive : (i : ℕ) → i < n → Arrives (epoch_marks e) e.key (length e.key.plan.stages) (begin_in e b + i)
    pub steps : (i : ℕ) → i < n → steps_among (map held_in stages) i ≡ steps_at (epoch_marks e) e.key (begin_in e b + i)

  -- the readers have left what the iterations from the i-th on tell, so many of them
  pub record AreComing (i j : ℕ) (readers : List Left) : Type 0 where
    pub queues : ℕ → List Told
    pub more : ℕ → List Told
    pub loads : ℕ → List (List Load)
    pub more_loads : ℕ → List (List Load)
    pub shows : ShowsQueues e.key.program e.key.plan readers queues loads
    pub told : QueuesBring (epoch_marks e) e.key (length e.key.plan.stages) (begin_in e b + i) j queues more
    pub loaded : LoadsComing (epoch_marks e) e.key (begin_in e b + i) j loads more_loads

  -- The first j iterations of the batch are clean and told, and the epoch goes on behind each.
  pub record CleanTo (j left : ℕ) (cells : List ℤ) (vs : List Verdict) : Type 0 where
    pub few : j ≤ size_in e b
    pub goes : GoesOnTo e.key (begin_in e b + j)
    pub stands : JudgingStands e (begin_in e b + j) left cells
    pub told : AreTold e b vs
    pub onward : EachGoesOn vs
    pub count : length vs ≡ j

  -- .. and of n that came the readers have left what the others tell
  pub record Within (n j left : ℕ) (cells : List ℤ) (readers : List Left) (told : List Verdict) : Type 0 where
    pub clean : CleanTo j left cells told
    pub coming : AreComing j (n - j) readers

  -- the last of those that are clean and told leaves the region
  pub record Closed (left : ℕ) (cells : List ℤ) (vs : List Verdict) : Type 0 where
    pub told : AreTold e b vs
    pub stands : JudgingStands e (begin_in e b + length vs) left cells
    pub closes : EachGoesOn vs → ⊥

  -- behind those that are clean and told is one that is to be executed again
  pub record Broken (left : ℕ) (cells : List ℤ) (told : List Verdict) : Type 0 where
    pub place : ℕ
    pub clean : CleanTo place left cells told
    pub again : (cause : Cause) × (Again cause ≡ verdict_at e.key (begin_in e b + place))

  -- what is decided of n iterations, one by one, up to the first behind which none follows: the last decision, and what is told then
  abbrev pub CameTo : ℕ → Decision → ℕ → List ℤ → List Verdict → Type 0
  CameTo n Goes left cells told = CleanTo n left cells told
  CameTo n Closes left cells told = Closed left cells told
  CameTo n Unclean left cells told = Broken left cells told
  CameTo n NoMemory left cells told = (place : ℕ) × CleanTo place left cells told

  -- .. of one more of them, behind j clean ones
  abbrev pub Comes : ℕ → ℕ → Decision → ℕ → List ℤ → List Left → List Verdict → Type 0
  Comes n j Goes left cells readers told = Within n (suc j) left cells readers told
  Comes n j d left cells readers told = CameTo n d left cells told
