use Rattle.std.proofs.Common.{◌≤◌, refl, arith, ◌∙◌}
use Rattle.dp_forms.specs.Codes.{OfPut}
use Rattle.dp_forms.proofs.GoesLemmas.{moved, put_stays, put_goes}
use Rattle.dp_forms.proofs.statements.PutCode.run.Goals as goal

pub returns-then-state-lt1-clause-runs : goal.returns-then-state-lt1-clause-runs
returns-then-state-lt1-clause-runs g c = moved (OfPut g.row.S g.row.F g.row.C g.I.Value.is_of g.V.Value.is_of)
    (put_stays g.I.Value.is_of g.V.Value.is_of g.row.S g.row.F g.row.C) c.left_at-left.ensures.at c.left_at-left.ensures.fuel
    c.left_at-left.ensures.registers refl refl

pub returns-in-None-clause-runs : goal.returns-in-None-clause-runs
returns-in-None-clause-runs g c = moved (OfPut g.row.S g.row.F g.row.C g.I.Value.is_of g.V.Value.is_of)
    (put_stays g.I.Value.is_of g.V.Value.is_of g.row.S g.row.F g.row.C) c.left_at-left.ensures.at c.left_at-left.ensures.fuel c.left_at-left.ensures.registers
    c.in-None.ensures refl

pub returns-in-Some-clause-runs : goal.returns-in-Some-clause-runs
returns-in-Some-clause-runs g c = let some : 1 ≤ c.args.state.fuel = omega (arith, c.if-state-lt1.false) in
    moved (OfPut g.row.S g.row.F g.row.C g.I.Value.is_of g.V.Value.is_of) (put_goes g.I.Value.is_of g.V.Value.is_of g.row.S g.row.F g.row.C some
    c.in-Some.ensures) (c.stepped-next.ensures.at ∙ c.requires) c.stepped-next.ensures.fuel c.stepped-next.ensures.registers refl refl
