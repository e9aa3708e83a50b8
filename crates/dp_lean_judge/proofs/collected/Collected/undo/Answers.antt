use Rattle.std.proofs.Common.{◌∙◌, sym, ap, slice_set, w64, rules}
use Rattle.std.proofs.lemmas.Int.{to_z-of_z}
use mir.Val.{SFits}
use Rattle.dp_lean_judge.specs.Collecting.{undone}
use Rattle.dp_lean_judge.proofs.Undoing.{undone_last}
use Rattle.dp_lean_judge.proofs.collected.Collected.undo.Goals as goal

pub loop-store-preserved : goal.loop-store-preserved
loop-store-preserved c =
    let store = c.in-Some.store in
    let fits : SFits w64 c.in-Some.store.value = search rules in
    record {
      cells = ap (undone c.pop.new.self) (c.set.ensures ∙ ap (slice_set c.loop-store.cells store.cell.0) (to_z-of_z w64 store.value fits))
          ∙ sym (undone_last c.pop.new.self store c.loop-store.cells) ∙ ap (λ notes. undone notes c.loop-store.cells) (sym c.in-Some.ensures)
          ∙ c.loop-store.invariant.cells;
      stores = c.loop-store.invariant.stores;
      prints = c.loop-store.invariant.prints;
    }
