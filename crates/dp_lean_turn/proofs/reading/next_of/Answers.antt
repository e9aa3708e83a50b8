use Rattle.std.proofs.Common.{◌≡◌, ◌∙◌, sym, ap, ℕ, ◌∷◌, Some, ℤ, w64, to_z, of_z, rules}
use Rattle.dp_lean.specs.Queues.{Did}
use Rattle.dp_columns.specs.Left.{Left}
use Rattle.dp_columns.specs.Columned.{value_cell}
use Rattle.dp_lean_turn.proofs.Puts.{keeps_values, keeps_elements, value_found}
use Rattle.dp_lean_turn.proofs.reading.next_of.Goals as goal

pub next_value-requires : goal.next_value-requires
next_value-requires c = keeps_values c.args.reader.now.kinds c.args.place c.in-Value.cell (sym c.requires.kind ∙ c.in-Value.is)

pub next_element-requires : goal.next_element-requires
next_element-requires c = keeps_elements c.args.reader.now.kinds c.args.place (sym c.requires.kind ∙ c.in-Element.is)

pub returns-in-Some-clause-took : goal.returns-in-Some-clause-took
returns-in-Some-clause-took c =
    let e = c.in-Some.ensures in
    let cell = ap value_cell (value_found c.args.reader.now.kinds c.args.place c.in-Value.cell (sym c.requires.kind ∙ c.in-Value.is)) in
    let same : to_z w64 (of_z w64 c.in-Some.value) ≡ c.in-Some.value = search rules in
    record {
      rest = e.0;
      front = e.1 ∙ ap (λ (n : ℕ). Some (Did n c.in-Some.value ∷ e.0)) cell ∙ ap (λ (z : ℤ). Some (Did c.in-Value.cell z ∷ e.0)) (sym same);
      left = ap (λ (l : Left). l.told) e.2;
    }
