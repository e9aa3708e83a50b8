use Rattle.std.specs.Prelude.{◌≡◌, ◌+◌, length, drop}
use Rattle.dp_pipeline.specs.UnitCount.{unit_count_all}
use Rattle.dp_pipeline.proofs.bells.bells_of.Given as goal

abbrev pub invariant-loop-kind : goal.invariant-loop-kind
invariant-loop-kind l = length l.bells.items + unit_count_all l.size.workers (drop l.kind-index l.plan.stages) ≡ unit_count_all l.size.workers l.plan.stages
