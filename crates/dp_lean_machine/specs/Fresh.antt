-- A batch of which nothing is told yet.
use Rattle.std.specs.Prelude.{◌≡◌, ◌+◌, ℕ}
use Rattle.dp_lean_region.specs.LeanEpoch.{LeanEpoch, IsLeanEpoch, begin_in, size_in}
use Rattle.dp_lean_region.specs.Line.{IsLineOf}
use Rattle.dp_lean_machine.specs.Sent.{IsSent}
use Rattle.dp_lean_machine.specs.declared.batch.LeanBatch.{LeanBatch}
use Rattle.dp_lean_region.specs.declared.Line.{Line}

-- It is what comes to stage 1 of each batch that begins with this iteration and may have so many.
abbrev pub IsFresh : Line → ℕ → ℕ → LeanBatch → Type 0
IsFresh line first size x =
    (e : LeanEpoch) (b : ℕ) → IsLeanEpoch e → IsLineOf e line → first ≡ e.key.first + begin_in e b → size ≡ size_in e b → IsSent e 0 b x
