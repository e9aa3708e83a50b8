-- What one iteration's judging comes to, and what is done then.
use Rattle.std.specs.Prelude.{◌≡◌, ◌-◌, ℕ, Bool, true, false, List, ℤ, Some}
use Rattle.dp_base.specs.declared.StoreOf.{StoreOf}
use Rattle.dp_tree.specs.declared.Program.{Program}
use Rattle.dp_tree.specs.Eval.{Load}
use Rattle.dp_plan.specs.declared.Plan.{Plan}
use Rattle.dp_lean_judge.specs.Locals.{clear_cells}
use Rattle.dp_lean.specs.Queues.{Told}
use Rattle.dp_lean_code.specs.declared.LeanOp.{LeanOp}
use Rattle.dp_columns.specs.Left.{Left}
use Rattle.dp_lean_judge.specs.JudgeState.{JudgeEnd, judge_begin}
unfoldable use Rattle.dp_lean_judge.specs.JudgeFlat.{judge_flat}
use Rattle.dp_lean_judge.specs.Shown.{ShowsQueues}
use Rattle.dp_lean_judge.specs.Ready.{JudgeIsReady}
use Rattle.dp_lean_judge.specs.Judged.{JudgingEnds, SameWhereChecked}
use Rattle.dp_lean_judge.specs.Collecting.{undone}
use Rattle.dp_lean_judge.specs.declared.collected.Collected.{Collected}
use Rattle.dp_lean_judge.specs.declared.judge.LeanJudged.{LeanJudged}
use Rattle.dp_lean_judge.specs.declared.ready.Ready.{Ready}
use Rattle.dp_lean_region.specs.declared.line.JudgeTables.{JudgeTables}
use Rattle.dp_lean_machine.specs.declared.batch.BatchStatus.{BatchStatus}
use Rattle.dp_lean_machine.specs.declared.batch.BatchStatus.TheVariants as status
use Rattle.dp_judge.specs.Decided.{cleans}
use Rattle.dp_judge.specs.steps.Adding.{AddedTo, GrownTo}
use Rattle.dp_judge.specs.declared.judging.Bench.{Bench}
use Rattle.dp_judge.specs.declared.judging.Decision.{Decision}
use Rattle.dp_judge.specs.declared.judging.Decision.TheVariants.{Goes, Closes, Unclean, NoMemory}
use Rattle.dp_judge.specs.declared.told.ToldBatch.{ToldBatch}
use Rattle.dp_judge.specs.declared.told.ToldEnd.{ToldEnd}
use Rattle.dp_judge.specs.declared.told.ToldEnd.TheVariants as ends

-- another iteration follows a clean one, unless that leaves the region
abbrev pub going_by : Bool → Decision
going_by true = Closes
going_by false = Goes

-- The answer is the end of each code that is ready so, from this memory, or any where no site is checked, and with what these readers
-- have left; what is collected comes behind what was. Or memory was wanting.
abbrev pub SeesAs : Ready → List ℤ → List Left → Collected → LeanJudged → List ℤ → List Left → Collected → Type 0
SeesAs ready cells readers start answer cells_new readers_new collected =
    (p : Program) (plan : Plan) (code : List LeanOp) (queues : ℕ → List Told) (loads : ℕ → List (List Load)) (kept : List ℤ) →
    JudgeIsReady p plan code ready → SameWhereChecked p plan kept cells → ShowsQueues p plan readers queues loads →
    (n : ℕ) (end : JudgeEnd) → judge_flat p plan code n (judge_begin kept queues loads) ≡ Some end →
    JudgingEnds p plan start end answer cells_new readers_new collected

-- What was collected behind what was told is told as a clean iteration, which leaves this of the fuel. The body locals read 0, where
-- something is compared.
pub record Committed (tables : JudgeTables) (after : ℕ) (closing : Bool) (old new : Bench) (t u : ToldBatch) (grown : GrownTo t u)
    (told_new : ToldBatch) : Type 0 where
  pub left : new.left ≡ after
  pub cells : tables.ready.now.compares ≡ true → new.cells ≡ clear_cells tables.locals.now old.cells
  pub added : AddedTo t u grown (old.left - after) closing told_new

-- Nothing more is told, and the memory is what it was before the iteration.
pub record Undone (before : List StoreOf) (old new : Bench) (told_old told_new : ToldBatch) : Type 0 where
  pub left : new.left ≡ old.left
  pub cells : new.cells ≡ undone before old.cells
  pub told : cleans told_new ≡ cleans told_old

-- an iteration that is clean is committed, or memory is wanting for that
abbrev pub CommitsSo : JudgeTables → ℕ → Bool → Bench → Bench → (t u : ToldBatch) → GrownTo t u → ToldBatch → Decision → Type 0
CommitsSo tables after closing old new t u grown told_new Goes = (closing ≡ false) × Committed tables after closing old new t u grown told_new
CommitsSo tables after closing old new t u grown told_new Closes = (closing ≡ true) × Committed tables after closing old new t u grown told_new
CommitsSo tables after closing old new t u grown told_new NoMemory = Undone u.collected.before old new t told_new
CommitsSo tables after closing old new t u grown told_new Unclean = ⊥

-- what stands behind all iterations of a batch that came to their end
abbrev pub end_of_status : BatchStatus → ToldEnd
end_of_status status.Going = ends.Over
end_of_status status.Closing = ends.Over
end_of_status status.Void = ends.Unclean
end_of_status status.NoMemory = ends.NoMemory

-- .. behind those that are clean, by the last decision
abbrev pub end_of_decision : Decision → BatchStatus → ToldEnd
end_of_decision Goes s = end_of_status s
end_of_decision Closes s = ends.Over
end_of_decision Unclean s = ends.Unclean
end_of_decision NoMemory s = ends.NoMemory
