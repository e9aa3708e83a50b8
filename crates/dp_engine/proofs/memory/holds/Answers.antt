use Rattle.std.proofs.Common.{rules, ◌≡◌, ◌∙◌, sym, ap, to_z, of_z, w64, slice_get, Some}
use Rattle.std.proofs.lemmas.Bool.{eqb-true}
use Rattle.std.proofs.lemmas.Option.{slice_get-get_or}
use Rattle.dp_engine.proofs.MemoryLemmas.{set_same}
use Rattle.dp_engine.proofs.memory.holds.Goals as goal

pub returns-in-Some : goal.returns-in-Some
returns-in-Some c = λ same.
    let held : to_z w64 (of_z w64 c.in-Some.held.now) ≡ c.in-Some.held.now = search rules in
    let value : to_z w64 (of_z w64 c.args.value) ≡ c.args.value = search rules in
    let equal : c.in-Some.held.now ≡ c.args.value = sym held ∙ ap (to_z w64) (eqb-true _ _ same) ∙ value in
    let at = c.in-Some.ensures.lookup.3 in
    let there : slice_get c.args.cells.now c.args.cell ≡ Some c.in-Some.held.now = slice_get-get_or c.args.cells.now c.args.cell c.in-Some.held.now at.0
    ∙ ap Some (sym (at.1 c.in-Some.held.now)) in
    set_same c.args.cells.now c.args.cell c.args.value (there ∙ ap Some equal)
