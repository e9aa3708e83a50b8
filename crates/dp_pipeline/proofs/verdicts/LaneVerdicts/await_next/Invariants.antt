use Rattle.std.proofs.Common.{◌≡◌}
use Rattle.dp_pipeline.proofs.verdicts.LaneVerdicts.await_next.Given as goal

abbrev pub invariant-turns : goal.invariant-turns
invariant-turns g l = (l.self.key ≡ l.fn.self.key) × (l.self.given ≡ l.fn.self.given)
