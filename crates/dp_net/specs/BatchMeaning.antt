-- What the end of a batch's verdict says of the verdicts on its iterations.
use Rattle.std.specs.Prelude.{◌≡◌, ℕ, suc, ◌+◌, true}
use Rattle.dp_base.specs.declared.Cause.{Cause as ReportedCause}
use Rattle.dp_semantics.specs.EpochKey.{EpochKey}
use Rattle.dp_semantics.specs.EpochVerdicts.{Carried, Commit, Again, verdict_at}
use Rattle.dp_net.specs.NetVerdicts.{GoesOnTo}
use Rattle.dp_net.specs.Batches.{BatchVerdict, BatchGoesOn, BatchCloses, BatchRecovers, batch_begin, batch_size, source_verdict_at}

-- Of n iterations from place k on: either all are committed and go on, or the last of those that are committed closes the region,
-- or the one behind them is executed again for the cause.
pub record BatchMeans (key : EpochKey) (k n : ℕ) (v : BatchVerdict) : Type 0 where
  pub goes : v.ends ≡ BatchGoesOn → (v.iterations ≡ n) × GoesOnTo key (k + n)
  pub closes : v.ends ≡ BatchCloses →
      (last : ℕ) × (w : Carried) × (v.iterations ≡ suc last) × GoesOnTo key (k + last) × (verdict_at key (k + last) ≡ Commit w) × (w.closing ≡ true)
  pub recovers : (cause : ReportedCause) → v.ends ≡ BatchRecovers cause →
      GoesOnTo key (k + v.iterations) × (verdict_at key (k + v.iterations) ≡ Again cause)

-- So it is of each batch, behind verdicts that go on; and behind a batch that goes on the next one has such verdicts before it.
abbrev pub BatchesMean : Type 0
BatchesMean = (key : EpochKey) (cap b : ℕ) → GoesOnTo key (batch_begin key cap b) →
    BatchMeans key (batch_begin key cap b) (batch_size key cap b) (source_verdict_at key cap b)
