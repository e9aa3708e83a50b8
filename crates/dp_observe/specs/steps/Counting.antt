-- What is counted of one evaluation.
use Rattle.std.specs.Prelude.{◌≡◌, ℕ, ◌+◌, ◌-◌, ◌==◌, if◌then◌else◌, Bool, List, Option, Some, None, slice_get, slice_set}
use Rattle.dp_base.specs.declared.SiteId.{SiteId}
use Rattle.dp_meaning.specs.declared.sight.Effect.{Effect}
use Rattle.dp_meaning.specs.declared.sight.Effect.TheVariants.{Stored, Printed, Decided, Tried}
use Rattle.dp_observe.specs.declared.board.Board.{Board}
use Rattle.dp_observe.specs.declared.counter.Counter.{Counter}
use Rattle.dp_observe.specs.declared.frame.Frame.{Frame}
use Rattle.dp_observe.specs.declared.frame.Writer.{Writer}
use Rattle.dp_observe.specs.declared.sparse.Sparse.{Sparse}
use Rattle.dp_observe.specs.declared.tally.Tally.{Tally}
use Rattle.dp_observe.specs.steps.Columns.{at_column}
use Rattle.dp_observe.specs.Sparse.{at}
use Rattle.dp_observe.specs.steps.Frames.{frame_after, counted, loads_at}

-- an evaluation with loads of these cells is counted
pub record TallyCounts (effect : Effect) (cells : List ℕ) (frame : Frame) (writers : Sparse Writer) (locals : Sparse Bool) (old new : Tally) : Type 0 where
  pub count : new.count ≡ counted old.count effect
  pub shown : (k : ℕ) → at_column new.shown k ≡ at_column old.shown k + loads_at frame writers locals k cells

-- the tally at its site's place, if there is one
abbrev pub PlaceCounts : Effect → List ℕ → Frame → Sparse Writer → Sparse Bool → ℕ → List Tally → List Tally → Option Tally → Type 0
PlaceCounts effect cells frame writers locals place old new None = new ≡ old
PlaceCounts effect cells frame writers locals place old new (Some t) =
    (u : Tally) × (new ≡ slice_set old place u) × TallyCounts effect cells frame writers locals t u

-- an evaluation of one of the region's sites is counted
pub record Counts (site : ℕ) (effect : Effect) (cells : List ℕ) (after : ℕ) (writers : Sparse Writer) (old new : Counter) : Type 0 where
  pub frame : new.frame ≡ frame_after old.frame site after
  pub locals : new.locals ≡ old.locals
  pub tallies : PlaceCounts effect cells new.frame writers old.locals (site - old.frame.first.0) old.tallies new.tallies
      (slice_get old.tallies (site - old.frame.first.0))

-- who stored into a cell last, after an evaluation
abbrev pub writer_after : SiteId → Effect → ℕ → ℕ → Writer → Writer
writer_after site (Stored cell value) after k before = if k == cell then record { site = site; after = after } else before
writer_after site (Printed value) after k before = before
writer_after site (Decided value) after k before = before
writer_after site (Tried value) after k before = before

-- the counter of the evaluation's region, if it is in one
abbrev pub OwnerCounts : SiteId → Effect → List ℕ → ℕ → Sparse Writer → ℕ → List Counter → List Counter → Option Counter → Type 0
OwnerCounts site effect cells after writers owner old new None = new ≡ old
OwnerCounts site effect cells after writers owner old new (Some c) =
    (d : Counter) × (new ≡ slice_set old owner d) × Counts site.0 effect cells after writers c d

-- an evaluation is counted
pub record BoardCounts (site : SiteId) (effect : Effect) (cells : List ℕ) (after : ℕ) (old new : Board) : Type 0 where
  pub owners : new.owners ≡ old.owners
  pub writers : (k : ℕ) → at new.writers k ≡ writer_after site effect after k (at old.writers k)
  pub counters : OwnerCounts site effect cells after old.writers (at old.owners site.0) old.counters new.counters
      (slice_get old.counters (at old.owners site.0))
