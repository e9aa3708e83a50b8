use Rattle.std.proofs.Common.{◌≡◌, ◌≤◌, refl, ap, arith, rules, ◌∙◌, ℤ, [], ◌∷◌, ◌++◌, to_z, of_z, w64}
use Rattle.dp_forms.specs.Codes.{OfSay}
use Rattle.dp_forms.proofs.GoesLemmas.{moved, say_stays, say_goes}
use Rattle.dp_forms.proofs.statements.SayCode.run.Goals as goal

pub returns-then-state-lt1-clause-runs : goal.returns-then-state-lt1-clause-runs
returns-then-state-lt1-clause-runs g c = moved (OfSay g.row.S g.V.Value.is_of) (say_stays g.V.Value.is_of g.row.S) c.left_at-left.ensures.at
    c.left_at-left.ensures.fuel c.left_at-left.ensures.registers refl refl

pub returns-in-None-clause-runs : goal.returns-in-None-clause-runs
returns-in-None-clause-runs g c = moved (OfSay g.row.S g.V.Value.is_of) (say_stays g.V.Value.is_of g.row.S) c.left_at-left.ensures.at
    c.left_at-left.ensures.fuel c.left_at-left.ensures.registers refl refl

pub returns-in-None-say-clause-runs : goal.returns-in-None-say-clause-runs
returns-in-None-say-clause-runs g c = moved (OfSay g.row.S g.V.Value.is_of) (say_stays g.V.Value.is_of g.row.S) c.left_at-left.ensures.at
    c.left_at-left.ensures.fuel c.left_at-left.ensures.registers refl c.in-None-say.ensures

pub returns-in-Some-say-clause-runs : goal.returns-in-Some-say-clause-runs
returns-in-Some-say-clause-runs g c = let same : to_z w64 (of_z w64 c.in-Some.value) ≡ c.in-Some.value = search rules in
    let some : 1 ≤ c.args.state.fuel = omega (arith, c.if-state-lt1.false) in
    moved (OfSay g.row.S g.V.Value.is_of) (say_goes g.V.Value.is_of g.row.S c.in-Some.value some c.in-Some.ensures) (c.stepped-next.ensures.at ∙ c.requires)
    c.stepped-next.ensures.fuel c.stepped-next.ensures.registers refl (c.in-Some-say.ensures ∙ ap (λ (v : ℤ). c.args.out.now ++ (v ∷ [])) same)
