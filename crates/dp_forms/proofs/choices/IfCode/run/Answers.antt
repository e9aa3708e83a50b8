use Rattle.std.proofs.Common.{◌≡◌, ◌≤◌, refl, arith, rules, true, false}
use Rattle.dp_base.specs.Arithmetic.{is_zero}
use Rattle.dp_forms.specs.Codes.{OfIf}
use Rattle.dp_forms.proofs.GoesLemmas.{moved, begun}
use Rattle.dp_forms.proofs.ChoiceLemmas.{if_stays, if_then, if_else}
use Rattle.dp_forms.proofs.choices.IfCode.run.Goals as goal

pub returns-then-state-lt1-clause-runs : goal.returns-then-state-lt1-clause-runs
returns-then-state-lt1-clause-runs g c = moved (OfIf g.row.S g.C.Value.is_of g.A.Code.is_of g.B.Code.is_of)
    (if_stays g.C.Value.is_of g.A.Code.is_of g.B.Code.is_of g.row.S) c.left_at-left.ensures.at c.left_at-left.ensures.fuel
    c.left_at-left.ensures.registers refl refl

pub returns-in-None-clause-runs : goal.returns-in-None-clause-runs
returns-in-None-clause-runs g c = moved (OfIf g.row.S g.C.Value.is_of g.A.Code.is_of g.B.Code.is_of)
    (if_stays g.C.Value.is_of g.A.Code.is_of g.B.Code.is_of g.row.S) c.left_at-left.ensures.at c.left_at-left.ensures.fuel
    c.left_at-left.ensures.registers refl refl

pub returns-then-yes-clause-runs : goal.returns-then-yes-clause-runs
returns-then-yes-clause-runs g c =
    let some : 1 ≤ c.args.state.fuel = omega (arith, c.if-state-lt1.false) in
    let test : is_zero c.in-Some.test ≡ false = search rules in
    if_then g.C.Value.is_of g.A.Code.is_of g.B.Code.is_of g.row.S c.in-Some.test some test c.in-Some.ensures
    (begun g.A.Code.is_of c.stepped-next.ensures.fuel c.stepped-next.ensures.registers c.run-then_to.ensures.runs)

pub returns-else-yes-clause-runs : goal.returns-else-yes-clause-runs
returns-else-yes-clause-runs g c =
    let some : 1 ≤ c.args.state.fuel = omega (arith, c.if-state-lt1.false) in
    let test : is_zero c.in-Some.test ≡ true = search rules in
    if_else g.C.Value.is_of g.A.Code.is_of g.B.Code.is_of g.row.S c.in-Some.test some test c.in-Some.ensures
    (begun g.B.Code.is_of c.stepped-next.ensures.fuel c.stepped-next.ensures.registers c.run-else_to.ensures.runs)
