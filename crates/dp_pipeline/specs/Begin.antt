-- Where an epoch of a prepared region begins.
use Rattle.std.specs.Prelude.{List, ℤ, ℕ}
use Rattle.dp_semantics.specs.EpochKey.{EpochKey}
use Rattle.dp_prepared.specs.Planned.{Prepared}
use Rattle.dp_pipeline.specs.declared.keys.Begin.{Begin}
use Rattle.dp_relay.specs.UnitsKey.{UnitsKey}

-- the epoch of this region and input that begins so
abbrev pub key_at : Prepared → List ℤ → Begin → EpochKey
key_at region input begin =
    record { program = region.program; plan = region.plan; input = input; first = begin.first; base = begin.base.now; steps = begin.steps; fuel = begin.fuel }

-- .. and how many iterations go together at most
abbrev pub units_key_at : Prepared → List ℤ → Begin → ℕ → UnitsKey
units_key_at region input begin cap = record { epoch = key_at region input begin; cap = cap }
