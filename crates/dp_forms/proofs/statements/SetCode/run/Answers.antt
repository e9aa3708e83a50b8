use Rattle.std.proofs.Common.{◌≡◌, ap, set, ℤ, to_z, of_z, w64, ◌<◌, ◌≤◌, refl, arith, rules, length, ◌∙◌}
use Rattle.dp_forms.specs.Codes.{OfSet}
use Rattle.dp_forms.proofs.GoesLemmas.{moved, set_stays, set_goes}
use Rattle.dp_forms.proofs.statements.SetCode.run.Goals as goal

pub returns-then-state-lt1-clause-runs : goal.returns-then-state-lt1-clause-runs
returns-then-state-lt1-clause-runs g c = moved (OfSet g.row.S g.row.K g.V.Value.is_of) (set_stays g.V.Value.is_of g.row.S g.row.K) c.left_at-left.ensures.at
    c.left_at-left.ensures.fuel c.left_at-left.ensures.registers refl refl

pub returns-then-this-clause-runs : goal.returns-then-this-clause-runs
returns-then-this-clause-runs g c = moved (OfSet g.row.S g.row.K g.V.Value.is_of) (set_stays g.V.Value.is_of g.row.S g.row.K) c.left_at-left.ensures.at
    c.left_at-left.ensures.fuel c.left_at-left.ensures.registers refl refl

pub returns-in-None-clause-runs : goal.returns-in-None-clause-runs
returns-in-None-clause-runs g c = moved (OfSet g.row.S g.row.K g.V.Value.is_of) (set_stays g.V.Value.is_of g.row.S g.row.K) c.left_at-left.ensures.at
    c.left_at-left.ensures.fuel c.left_at-left.ensures.registers refl refl

pub returns-in-Some-clause-runs : goal.returns-in-Some-clause-runs
returns-in-Some-clause-runs g c =
    let within : g.row.K < length c.args.state.registers = search rules in
    let same : to_z w64 (of_z w64 c.in-Some.value) ≡ c.in-Some.value = search rules in
    let some : 1 ≤ c.args.state.fuel = omega (arith, c.if-state-lt1.false) in
    moved (OfSet g.row.S g.row.K g.V.Value.is_of) (set_goes g.V.Value.is_of g.row.S g.row.K c.in-Some.value within some c.in-Some.ensures)
    (c.holding-held.ensures.at ∙ c.requires) c.holding-held.ensures.fuel (c.holding-held.ensures.registers
    ∙ ap (λ (v : ℤ). set c.args.state.registers g.row.K v) same) refl refl
