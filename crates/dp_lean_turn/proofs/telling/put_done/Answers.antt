use Rattle.std.proofs.Common.{◌≡◌, ◌∙◌, sym, ap, ℕ, ℤ, rules, w64, to_z, of_z}
use Rattle.std.proofs.lemmas.Result.{on_ok_weaker}
use Rattle.dp_lean.specs.Queues.{Did}
use Rattle.dp_columns.specs.Columned.{with_told, value_cell}
use Rattle.dp_lean_turn.proofs.Puts.{keeps_values, keeps_elements, value_found}
use Rattle.dp_lean_turn.proofs.Growing.{grown_by, told_more}
use Rattle.dp_lean_turn.proofs.telling.put_done.Goals as goal

pub put_value-requires : goal.put_value-requires
put_value-requires c = keeps_values c.args.own.now.kinds c.args.place c.in-Value.kept (sym c.requires.kind ∙ c.in-Value.is)

pub put_element-requires : goal.put_element-requires
put_element-requires c = keeps_elements c.args.own.now.kinds c.args.place (sym c.requires.kind ∙ c.in-Element.is)

pub returns-then-kept-cell-clause-ok : goal.returns-then-kept-cell-clause-ok
returns-then-kept-cell-clause-ok c =
    let kept = value_found c.args.own.now.kinds c.args.place c.in-Value.kept (sym c.requires.kind ∙ c.in-Value.is) in
    let cell = ap value_cell kept ∙ c.if-kept-cell.true in
    let same : to_z w64 (of_z w64 c.args.value) ≡ c.args.value = search rules in
    rw c.in-Value.is (on_ok_weaker c.put_value.result (λ e. e ∙ ap (λ (n : ℕ). with_told c.args.place (Did n (to_z w64 (of_z w64 c.args.value))) c.args.own.now)
    cell ∙ ap (λ (z : ℤ). with_told c.args.place (Did c.args.cell z) c.args.own.now) same) c.put_value.ensures.ok)

pub returns-then-kept-cell-clause-grown : goal.returns-then-kept-cell-clause-grown
returns-then-kept-cell-clause-grown c =
    grown_by c.put_value.result c.args.own.now c.put_value.new.self _ c.put_value.ensures.ok c.put_value.ensures.err (told_more c.args.place _ c.args.own.now)

pub returns-in-Element-clause-grown : goal.returns-in-Element-clause-grown
returns-in-Element-clause-grown c = grown_by c.put_element.result c.args.own.now c.put_element.new.own _ c.put_element.ensures.ok c.put_element.ensures.err
    (told_more c.args.place _ c.args.own.now)
