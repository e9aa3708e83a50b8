use Rattle.std.specs.Prelude.{◌≡◌, ◌+◌, length}
use Rattle.dp_pipeline.proofs.bells.add_workers_bells.Given as goal

abbrev pub invariant-loop : goal.invariant-loop
invariant-loop l = length l.bells.items ≡ length l.fn.bells.items + l.counter
