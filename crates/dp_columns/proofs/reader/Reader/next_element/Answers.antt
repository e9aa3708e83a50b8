use Rattle.std.proofs.Common.{◌≡◌, ◌∙◌, sym, ap, ℕ, ℤ, ◌≤◌, ◌+◌, length, slice_get, Option, Some, None, MatchOption, option_map, arith}
use Rattle.std.proofs.lemmas.Option.{slice_get_within}
use Rattle.std.proofs.lemmas.List.{length-map}
use Rattle.dp_lean.specs.Queues.{Did}
use Rattle.dp_columns.specs.declared.ColumnKind.TheVariants.{Element, Block}
use Rattle.dp_columns.specs.Left.{TookTold}
use Rattle.dp_columns.specs.Paired.{did}
use Rattle.dp_columns.specs.Marked.{left_behind_marks}
use Rattle.dp_columns.specs.Held.{told_by}
use Rattle.dp_columns.proofs.Places.{at_map}
use Rattle.dp_columns.proofs.MarkLists.{marked_told, took_told, told_none_left, element_seen}
use Rattle.dp_columns.proofs.reader.Reader.next_element.Goals as goal

pub returns-then-mark-len : goal.returns-then-mark-len
returns-then-mark-len c =
    let r = c.self.inside in
    let column = c.column_at.result.now in
    let mark = c.mark_at-mark.result in
    let there = ap (λ ms. slice_get ms c.args.place) (sym c.as_slice.ensures) ∙ c.mark_at-mark.ensures in
    let kind = element_seen r.told.now r.loads.now r.told_marks r.loads_marks c.args.place column c.column_at.ensures c.args.self.now
    c.self.view_is c.requires in
    let long = ap (λ k. length (told_by k column)) kind ∙ length-map column.elements did in
    told_none_left r.told.now r.loads.now r.told_marks r.loads_marks c.args.place column c.column_at.ensures mark there c.args.self.now c.self.view_is
    (omega (arith, long, c.len.ensures, c.if-mark-len.true))

pub set-requires : goal.set-requires
set-requires c =
    let there = ap (λ ms. slice_get ms c.args.place) (sym c.as_slice.ensures) ∙ c.mark_at-mark.ensures in
    slice_get_within c.self.inside.told_marks c.args.place c.mark_at-mark.result there

pub invariant_of-self : goal.invariant_of-self
invariant_of-self c =
    let r = c.self.inside in
    let column = c.column_at.result.now in
    let mark = c.mark_at-mark.result in
    let kind = element_seen r.told.now r.loads.now r.told_marks r.loads_marks c.args.place column c.column_at.ensures c.args.self.now
    c.self.view_is c.requires in
    marked_told r.told.now r.loads.now r.told_marks r.loads_marks c.args.place column c.column_at.ensures
    (record { at = mark.at + 1; from = mark.from }) c.set.new.self c.set.ensures (λ is. absurd (apart (sym kind ∙ is))) c.self.invariant
  where
    apart : Element ≡ Block → ⊥
    apart e = cc

pub returns : goal.returns
returns c = by c.get.result c.get.ensures
  where
    by : (o : Option (ℕ × ℤ)) → MatchOption o (length c.column_at.result.now.elements ≤ c.mark_at-mark.result.at)
        (λ pair. slice_get c.column_at.result.now.elements c.mark_at-mark.result.at ≡ Some (record { cell = pair.0; value = pair.1 })) →
        TookTold c.args.self.now c.args.place (option_map (λ (pair : ℕ × ℤ). Did pair.0 pair.1) o)
        (left_behind_marks c.self.inside.told.now c.self.inside.loads.now c.set.new.self c.self.inside.loads_marks)
    by None past = absurd (omega (arith, past, c.len.ensures, c.if-mark-len.false))
    by (Some pair) there_is =
        let r = c.self.inside in
        let column = c.column_at.result.now in
        let mark = c.mark_at-mark.result in
        let there = ap (λ ms. slice_get ms c.args.place) (sym c.as_slice.ensures) ∙ c.mark_at-mark.ensures in
        let kind = element_seen r.told.now r.loads.now r.told_marks r.loads_marks c.args.place column c.column_at.ensures c.args.self.now
        c.self.view_is c.requires in
        let found = ap (λ k. slice_get (told_by k column) mark.at) kind ∙ at_map did column.elements mark.at _ there_is in
        took_told r.told.now r.loads.now r.told_marks r.loads_marks c.args.place column c.column_at.ensures mark there c.args.self.now c.self.view_is
        _ (record { at = mark.at + 1; from = mark.from }) c.set.new.self c.set.ensures found (omega arith)
