use Rattle.std.proofs.Common.{◌≡◌, ◌≢◌, arith}
use Rattle.dp_forms.proofs.ChoiceLemmas.{then_runs, then_left}
use Rattle.dp_forms.proofs.sequence.ThenCode.run.Goals as goal

pub returns-then-between-eq0-clause-runs : goal.returns-then-between-eq0-clause-runs
returns-then-between-eq0-clause-runs g c = let zero : c.run-between.result.at ≡ 0 = omega (arith, c.if-between-eq0.true) in
    then_runs g.A.Code.is_of g.B.Code.is_of zero c.run-between.auto.memory c.run-between.ensures.runs c.run-to.ensures.runs

pub returns-else-between-eq0-clause-runs : goal.returns-else-between-eq0-clause-runs
returns-else-between-eq0-clause-runs g c = let some : c.run-between.result.at ≢ 0 = λ (e : c.run-between.result.at ≡ 0). absurd
    (omega (arith, c.if-between-eq0.false, e)) in then_left g.A.Code.is_of g.B.Code.is_of some c.run-between.ensures.runs
