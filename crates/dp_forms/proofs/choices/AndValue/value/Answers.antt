use Rattle.std.proofs.Common.{◌≡◌, ap, ℤ, ◌∙◌, rules, to_z, of_z, w64, true, false, not}
use Rattle.dp_base.specs.Arithmetic.{is_zero, number_of}
use Rattle.dp_forms.proofs.ValueLemmas.{and_short, and_value}
use Rattle.dp_forms.proofs.choices.AndValue.value.Goals as goal

pub returns-then-not-holds_first : goal.returns-then-not-holds_first
returns-then-not-holds_first g c = let zero : is_zero c.in_ok-a.a ≡ true = search rules in and_short c.in_ok-a.ensures zero

pub returns : goal.returns
returns g c =
    let some : is_zero c.in_ok-a.a ≡ false = search rules in
    let word : to_z w64 (of_z w64 c.in_ok-b.b) ≡ c.in_ok-b.b = search rules in
    let same : to_z w64 (of_z w64 c.truth.result) ≡ c.truth.result = search rules in
    and_value c.in_ok-a.ensures some c.in_ok-b.ensures (same ∙ c.truth.ensures ∙ ap (λ (b : ℤ). number_of (not (is_zero b))) word)
