use Rattle.std.proofs.Common.{◌≡◌, ◌≢◌, ◌≤◌, ◌∙◌, refl, arith, rules, true, false}
use Rattle.dp_base.specs.Arithmetic.{is_zero}
use Rattle.dp_forms.specs.Codes.{OfWhile}
use Rattle.dp_forms.proofs.GoesLemmas.{moved, begun}
use Rattle.dp_forms.proofs.ChoiceLemmas.{kept_none, kept_more, while_stays, while_past, while_left}
use Rattle.dp_forms.proofs.loops.turns.Goals as goal

pub turns-init : goal.turns-init
turns-init g c = record { kept = kept_none g.C.Value.is_of g.A.Code.is_of g.row.S; long = refl; zero = c.requires; less = omega arith }

pub turns-preserved : goal.turns-preserved
turns-preserved g c =
    let some : 1 ≤ c.turns.state.fuel = omega (arith, c.turns-test.true) in
    let test : is_zero c.in-Some.test ≡ false = search rules in
    let zero : c.run-state.result.at ≡ 0 = omega (arith, c.if-state-ne0.false) in
    record {
      kept = kept_more g.C.Value.is_of g.A.Code.is_of g.row.S c.turns.invariant.kept c.turns.invariant.long c.in-Some.test some c.in-Some.ensures test
          (begun g.A.Code.is_of c.stepped-next.ensures.fuel c.stepped-next.ensures.registers c.run-state.ensures.runs) zero;
      long = c.run-state.auto.memory ∙ c.turns.invariant.long;
      zero = zero;
      less = omega (arith, c.run-state.ensures.less, c.stepped-next.ensures.fuel, c.turns.invariant.less);
    }

pub returns-then-state-ne0-clause-runs : goal.returns-then-state-ne0-clause-runs
returns-then-state-ne0-clause-runs g c =
    let some : 1 ≤ c.turns.state.fuel = omega (arith, c.turns-test.true) in
    let test : is_zero c.in-Some.test ≡ false = search rules in
    let left : c.run-state.result.at ≢ 0 = λ (e : c.run-state.result.at ≡ 0). absurd (omega (arith, c.if-state-ne0.true, e)) in
    while_left g.C.Value.is_of g.A.Code.is_of g.row.S c.turns.invariant.kept c.turns.invariant.long c.in-Some.test some c.in-Some.ensures test
    (begun g.A.Code.is_of c.stepped-next.ensures.fuel c.stepped-next.ensures.registers c.run-state.ensures.runs) left

pub returns-else-yes-clause-runs : goal.returns-else-yes-clause-runs
returns-else-yes-clause-runs g c =
    let some : 1 ≤ c.turns.state.fuel = omega (arith, c.turns-test.true) in
    let test : is_zero c.in-Some.test ≡ true = search rules in
    moved (OfWhile g.row.S g.C.Value.is_of g.A.Code.is_of) (while_past g.C.Value.is_of g.A.Code.is_of g.row.S c.turns.invariant.kept c.turns.invariant.long
    c.in-Some.test some c.in-Some.ensures test) (c.stepped-next.ensures.at ∙ c.turns.invariant.zero) c.stepped-next.ensures.fuel
    c.stepped-next.ensures.registers refl refl

pub returns-clause-runs : goal.returns-clause-runs
returns-clause-runs g c = moved (OfWhile g.row.S g.C.Value.is_of g.A.Code.is_of) (while_stays g.C.Value.is_of g.A.Code.is_of g.row.S c.turns.invariant.kept
    c.turns.invariant.long) c.left_at-left.ensures.at c.left_at-left.ensures.fuel c.left_at-left.ensures.registers refl refl
