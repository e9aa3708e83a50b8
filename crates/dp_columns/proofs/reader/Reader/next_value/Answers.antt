use Rattle.std.proofs.Common.{◌≡◌, ◌∙◌, sym, ap, ℕ, ◌+◌, length, slice_get, Some, arith, rules, w64, to_z, of_z}
use mir.Val.{SFits}
use Rattle.std.proofs.lemmas.Int.{to_z-of_z}
use Rattle.std.proofs.lemmas.Option.{slice_get_within}
use Rattle.std.proofs.lemmas.List.{length-map}
use Rattle.dp_lean.specs.Queues.{Did}
use Rattle.dp_columns.specs.declared.ColumnKind.TheVariants.{Value, Block}
use Rattle.dp_columns.specs.Columned.{value_cell}
use Rattle.dp_columns.specs.Held.{told_by}
use Rattle.dp_columns.proofs.Places.{at_map}
use Rattle.dp_columns.proofs.MarkLists.{marked_told, took_told, told_none_left, value_seen}
use Rattle.dp_columns.proofs.reader.Reader.next_value.Goals as goal

pub returns-then-mark-values : goal.returns-then-mark-values
returns-then-mark-values c =
    let r = c.self.inside in
    let column = c.column_at.result.now in
    let mark = c.mark_at-mark.result in
    let there = ap (λ ms. slice_get ms c.args.place) (sym c.as_slice.ensures) ∙ c.mark_at-mark.ensures in
    let kind = value_seen r.told.now r.loads.now r.told_marks r.loads_marks c.args.place column c.column_at.ensures c.args.self.now c.self.view_is c.requires in
    let long = ap (λ k. length (told_by k column)) kind ∙ length-map column.values (Did (value_cell (slice_get c.args.self.now.kinds c.args.place))) in
    told_none_left r.told.now r.loads.now r.told_marks r.loads_marks c.args.place column c.column_at.ensures
    mark there c.args.self.now c.self.view_is (omega (arith, long, ap length c.as_slice-values.ensures, c.if-mark-values.true))

pub set-requires : goal.set-requires
set-requires c =
    let there = ap (λ ms. slice_get ms c.args.place) (sym c.as_slice.ensures) ∙ c.mark_at-mark.ensures in
    slice_get_within c.self.inside.told_marks c.args.place c.mark_at-mark.result there

pub invariant_of-self : goal.invariant_of-self
invariant_of-self c =
    let r = c.self.inside in
    let column = c.column_at.result.now in
    let mark = c.mark_at-mark.result in
    let kind = value_seen r.told.now r.loads.now r.told_marks r.loads_marks c.args.place column c.column_at.ensures c.args.self.now c.self.view_is c.requires in
    marked_told r.told.now r.loads.now r.told_marks r.loads_marks c.args.place column c.column_at.ensures
    (record { at = mark.at + 1; from = mark.from }) c.set.new.self c.set.ensures (λ is. absurd (apart (sym kind ∙ is))) c.self.invariant
  where
    apart : {n : ℕ} → Value n ≡ Block → ⊥
    apart e = cc

pub returns : goal.returns
returns c =
    let r = c.self.inside in
    let column = c.column_at.result.now in
    let mark = c.mark_at-mark.result in
    let there = ap (λ ms. slice_get ms c.args.place) (sym c.as_slice.ensures) ∙ c.mark_at-mark.ensures in
    let kind = value_seen r.told.now r.loads.now r.told_marks r.loads_marks c.args.place column c.column_at.ensures c.args.self.now c.self.view_is c.requires in
    let cell = value_cell (slice_get c.args.self.now.kinds c.args.place) in
    let fits : SFits w64 c.value_at.result = search rules in
    let value = ap (λ xs. slice_get xs mark.at) (sym c.as_slice-values.ensures) ∙ c.value_at.ensures in
    let found = ap (λ k. slice_get (told_by k column) mark.at) kind ∙ at_map (Did cell) column.values mark.at c.value_at.result value in
    let told : Did cell c.value_at.result ≡ Did cell (to_z w64 (of_z w64 c.value_at.result)) = ap (Did cell) (sym (to_z-of_z w64 c.value_at.result fits)) in
    took_told r.told.now r.loads.now r.told_marks r.loads_marks c.args.place column c.column_at.ensures mark there c.args.self.now c.self.view_is
    _ (record { at = mark.at + 1; from = mark.from }) c.set.new.self c.set.ensures (found ∙ ap Some told) (omega arith)
