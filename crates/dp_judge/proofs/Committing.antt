-- What is done with an iteration's judging.
use Rattle.dp_semantics.proofs.Names.{◌≡◌, refl, sym, ◌∙◌, subst, ℕ, suc, ◌+◌, ◌<◌, Bool, List, ℤ, map}
use Rattle.dp_base.specs.declared.Cause.{Cause}
use Rattle.dp_semantics.specs.EpochVerdicts.{Again, verdict_at}
use Rattle.dp_columns.specs.Left.{Left}
use Rattle.dp_lean_judge.specs.Collecting.{undone}
use Rattle.dp_lean_judge.specs.declared.judge.LeanJudged.{LeanJudged}
use Rattle.dp_lean_judge.specs.declared.judge.LeanJudged.TheVariants as judged
use Rattle.dp_lean_epoch.specs.LeanBatch.{steps_among}
use Rattle.dp_lean_region.specs.LeanEpoch.{LeanEpoch, begin_in}
use Rattle.dp_lean_region.specs.declared.line.JudgeTables.{JudgeTables}
use Rattle.dp_lean_machine.specs.Held.{held_in}
use Rattle.dp_lean_machine.specs.declared.batch.StageColumns.{StageColumns}
use Rattle.dp_judge.specs.Decided.{cleans}
use Rattle.dp_judge.specs.steps.Within.{JudgesBy, CameIn, CleanTo, Within, Closed, Broken, Comes}
use Rattle.dp_judge.specs.steps.Adding.{GrownTo, IsUngiven}
use Rattle.dp_judge.specs.steps.Deciding.{SeesAs, Undone, CommitsSo}
use Rattle.dp_judge.specs.declared.judging.Bench.{Bench}
use Rattle.dp_judge.specs.declared.judging.Decision.{Decision}
use Rattle.dp_judge.specs.declared.judging.Decision.TheVariants.{Goes, Closes, Unclean, NoMemory}
use Rattle.dp_judge.specs.declared.told.ToldBatch.{ToldBatch}
use Rattle.dp_judge.proofs.Iterating.{clean_still, spent, differs_then, goes_then, closes_then}

module _ (e : LeanEpoch) (b n place : ℕ) (stages : List StageColumns) (came : CameIn e b n stages) (low : place < n) (left : ℕ) (cells : List ℤ)
    (readers : List Left) (told_old told_then told_new : ToldBatch) (grown : GrownTo told_old told_then)
    (at : Within e b n place left cells readers (cleans told_old)) (tables : JudgeTables) (by : JudgesBy e tables)
    (bench bench_new : Bench) (same : bench.left ≡ left) (before : undone told_then.collected.before bench.cells ≡ cells)
    (readers_new : List Left) (answer : LeanJudged)
    (looks : SeesAs tables.ready.now cells readers told_old.collected answer bench.cells readers_new told_then.collected) where
  at_bench : Within e b n place bench.left cells readers (cleans told_old)
  at_bench = subst (λ (k : ℕ). Within e b n place k cells readers (cleans told_old)) (sym same) at

  abbrev IsUndone : Type 0
  IsUndone = Undone told_then.collected.before bench bench_new told_old told_new

  pub undone_stays : IsUndone → CleanTo e b place bench_new.left bench_new.cells (cleans told_new)
  undone_stays is = clean_still e b place left bench_new.left cells bench_new.cells (cleans told_old) (cleans told_new) (is.left ∙ same) (is.cells
      ∙ before) is.told at.clean

  broken : IsUndone → (cause : Cause) × (Again cause ≡ verdict_at e.key (begin_in e b + place)) →
      Broken e b bench_new.left bench_new.cells (cleans told_new)
  broken is again = record { place = place; clean = undone_stays is; again = again }

  -- it is executed again where its steps aren't left, or what was compared differs
  pub spent_comes : bench.left < steps_among (map held_in stages) place → IsUndone → Broken e b bench_new.left bench_new.cells (cleans told_new)
  spent_comes less is = broken is (spent e b n place stages came low bench.left cells readers (cleans told_old) at_bench less)

  pub differs_comes : answer ≡ judged.Differs → IsUndone → Broken e b bench_new.left bench_new.cells (cleans told_new)
  differs_comes differs is =
      broken is (differs_then e b n place stages came low left cells readers (cleans told_old) at tables by told_old.collected answer bench.cells readers_new
      told_then.collected grown.grows looks differs)

  -- else it is committed
  pub commits_come : (closing : Bool) → answer ≡ judged.Holds closing → (after : ℕ) →
      bench.left ≡ after + steps_among (map held_in stages) place → (d : Decision) →
      CommitsSo tables after closing bench bench_new told_old told_then grown told_new d →
      Comes e b n place d bench_new.left bench_new.cells readers_new (cleans told_new)
  commits_come closing holds after leaves Goes is =
      subst (Within e b n (suc place) bench_new.left bench_new.cells readers_new) (sym is.1.added.told)
      (goes_then e b n place stages came low bench.left cells readers (cleans told_old) at_bench tables by told_old.collected answer bench.cells readers_new
      told_then.collected grown.grows looks closing holds after leaves
      tables.locals.now refl bench_new.left is.1.left bench_new.cells is.1.cells is.0)
  commits_come closing holds after leaves Closes is =
      subst (Closed e b bench_new.left bench_new.cells) (sym is.1.added.told)
      (closes_then e b n place stages came low bench.left cells readers (cleans told_old) at_bench tables by told_old.collected answer bench.cells readers_new
      told_then.collected grown.grows looks closing holds after leaves
      tables.locals.now refl bench_new.left is.1.left bench_new.cells is.1.cells is.0)
  commits_come closing holds after leaves Unclean is = absurd is
  commits_come closing holds after leaves NoMemory is = (place, undone_stays is)

-- behind a clean iteration none is given yet
pub ungiven_then : (tables : JudgeTables) (after : ℕ) (closing : Bool) (old new : Bench) (t u : ToldBatch) (grown : GrownTo t u) (told_new : ToldBatch)
    (d : Decision) → d ≡ Goes → CommitsSo tables after closing old new t u grown told_new d → IsUngiven told_new
ungiven_then tables after closing old new t u grown told_new d goes is =
    (subst (CommitsSo tables after closing old new t u grown told_new) goes is).1.added.ungiven
