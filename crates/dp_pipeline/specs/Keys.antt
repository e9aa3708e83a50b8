-- What a key stands for.
use Rattle.dp_pipeline.specs.declared.keys.EpochKey.{EpochKey as Held}
use Rattle.dp_relay.specs.UnitsKey.{UnitsKey}

-- the epoch that a key names, and how many iterations go together at most
abbrev pub key_of : Held → UnitsKey
key_of k = record {
  epoch = record { program = k.p.now; plan = k.plan.now; input = k.input.now; first = k.first; base = k.base; steps = k.steps; fuel = k.fuel };
  cap = k.cap;
}
