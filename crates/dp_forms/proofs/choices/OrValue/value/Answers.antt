use Rattle.std.proofs.Common.{◌≡◌, ap, ℤ, ◌∙◌, rules, to_z, of_z, w64, true, false, not}
use Rattle.dp_base.specs.Arithmetic.{is_zero, number_of}
use Rattle.dp_forms.proofs.ValueLemmas.{or_short, or_value}
use Rattle.dp_forms.proofs.choices.OrValue.value.Goals as goal

pub returns-then-holds_first : goal.returns-then-holds_first
returns-then-holds_first g c = let some : is_zero c.in_ok-a.a ≡ false = search rules in or_short c.in_ok-a.ensures some

pub returns : goal.returns
returns g c =
    let zero : is_zero c.in_ok-a.a ≡ true = search rules in
    let word : to_z w64 (of_z w64 c.in_ok-b.b) ≡ c.in_ok-b.b = search rules in
    let same : to_z w64 (of_z w64 c.truth.result) ≡ c.truth.result = search rules in
    or_value c.in_ok-a.ensures zero c.in_ok-b.ensures (same ∙ c.truth.ensures ∙ ap (λ (b : ℤ). number_of (not (is_zero b))) word)
