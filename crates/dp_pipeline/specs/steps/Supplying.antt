-- Batches of which nothing was told yet, and those that come back for them.
use Rattle.std.specs.Prelude.{◌≡◌, ◌+◌, ◌-◌, ℕ, suc, min, max, IfSome}
use Rattle.dp_relay.specs.UnitsKey.{UnitsKey}
use Rattle.dp_lean_region.specs.LeanEpoch.{IsLeanEpoch}
use Rattle.dp_lean_region.specs.Line.{IsLineOf}
use Rattle.dp_lean_machine.specs.declared.batch.LeanBatch.{LeanBatch}
use Rattle.dp_lean_machine.specs.Sent.{IsSent}
use Rattle.dp_pipeline.specs.declared.supply.Supply.{Supply}
use Rattle.dp_pipeline.specs.Carried.{lean_of}
use Rattle.dp_pipeline.specs.Lanes.{ComesBack}
use Rattle.dp_pipeline.specs.Sizes.{batch_begins, size}

-- it gives batches of the epoch
pub record Supplies (x : Supply) (key : UnitsKey) : Type 0 where
  pub epoch : IsLeanEpoch (lean_of key)
  pub line : IsLineOf (lean_of key) x.line
  pub spares : ComesBack x.spares.view key
  pub last : IfSome x.last (λ spare. IsLineOf (lean_of key) spare.batch.line)

-- It is what comes to stage 1 of each batch of such an epoch that begins with this iteration and may have so many.
abbrev pub IsSupplied : Supply → ℕ → ℕ → LeanBatch → Type 0
IsSupplied x first count batch =
    (key : UnitsKey) (b : ℕ) → Supplies x key → first ≡ key.epoch.first + batch_begins key b → count ≡ size key b → IsSent (lean_of key) 0 b batch

-- how many iterations go together from this one on
abbrev pub size_at : ℕ → ℕ → ℕ → ℕ → ℕ
size_at first next fuel cap = min (suc fuel - next) (max 1 (min cap (next - first)))
