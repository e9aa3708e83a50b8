use Rattle.std.proofs.Common.{◌≡◌, ◌<◌, ℕ, true}
use Rattle.dp_semantics.specs.EpochVerdicts.{goes_on, verdict_at}
use Rattle.dswp.proofs.tests.units.all_clean.Given as goal

abbrev pub invariant-loop-place : goal.invariant-loop-place
invariant-loop-place g l = (n : ℕ) → n < l.verdicts.given → goes_on (verdict_at l.verdicts.key n) ≡ true
