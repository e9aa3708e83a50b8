use Rattle.std.proofs.Common.{◌∙◌, sym, ap, List, ℕ, ◌<◌, length, slice_get, Some, arith}
use Rattle.std.proofs.lemmas.Option.{slice_get-get_or}
use Rattle.std.proofs.lemmas.Int.{to_z-of_z}
use Rattle.std.proofs.Common.{w64, rules, slice_index_or}
use mir.Val.{SFits}
use Rattle.dp_columns.proofs.PairLists.{length_pairs, pair_at}
use Rattle.dp_columns.proofs.pairs.Pairs.get.Goals as goal

pub returns-then-at-values : goal.returns-then-at-values
returns-then-at-values c =
    let long = sym (ap length c.self.view_is) ∙ length_pairs c.self.inside.cells c.self.inside.values c.self.invariant in
    omega (arith, long, ap length c.as_slice-values.ensures, c.if-at-values.true)

pub returns : goal.returns
returns c =
    let fits : SFits w64 c.value_at.result = search rules in
    let cells = c.self.inside.cells in
    let values = c.self.inside.values in
    let within : c.args.at < length cells = omega (arith, ap length c.as_slice-values.ensures, c.if-at-values.false, c.self.invariant) in
    let cell = ap (λ (xs : List ℕ). slice_get xs c.args.at) (sym c.as_slice.ensures) ∙ slice_get-get_or c.as_slice.result.now c.args.at 0
    (omega (arith, within, ap length c.as_slice.ensures)) in
    let value = ap (λ xs. slice_get xs c.args.at) (sym c.as_slice-values.ensures) ∙ c.value_at.ensures in
    ap (λ pairs. slice_get pairs c.args.at) (sym c.self.view_is) ∙ pair_at cells values c.args.at _ _ cell value
    ∙ ap (λ v. Some (record { cell = slice_index_or c.as_slice.result.now c.args.at 0; value = v })) (sym (to_z-of_z w64 c.value_at.result fits))
