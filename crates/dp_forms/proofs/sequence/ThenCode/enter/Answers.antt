use Rattle.dp_forms.specs.Codes.{OfThen}
use Rattle.std.proofs.Common.{◌≡◌, ◌≢◌, arith}
use Rattle.dp_forms.proofs.ChoiceLemmas.{then_enters, then_entered, then_behind, entered_at}
use Rattle.dp_forms.proofs.sequence.ThenCode.enter.Goals as goal

pub returns-then-between-eq0 : goal.returns-then-between-eq0
returns-then-between-eq0 g c = let zero : c.in-Some.between.at ≡ 0 = omega (arith, c.if-between-eq0.true) in
    (c.run-to.ensures.small, then_enters g.A.Code.is_of g.B.Code.is_of zero c.enter.auto.memory c.in-Some.ensures.1 c.run-to.ensures.runs)

pub returns-else-between-eq0 : goal.returns-else-between-eq0
returns-else-between-eq0 g c = let some : c.in-Some.between.at ≢ 0 = λ (e : c.in-Some.between.at ≡ 0). absurd (omega (arith, c.if-between-eq0.false, e)) in
    (c.in-Some.ensures.0, then_entered g.A.Code.is_of g.B.Code.is_of some c.in-Some.ensures.1)

pub returns-in-Some-enter : goal.returns-in-Some-enter
returns-in-Some-enter g c = (
  c.in-Some-enter.ensures.0,
  entered_at (OfThen g.A.Code.is_of g.B.Code.is_of) c.in-None.ensures.0 c.in-None.ensures.1 (then_behind g.A.Code.is_of
      g.B.Code.is_of c.in-Some-enter.ensures.1),
)
