use Rattle.std.proofs.Common.{◌≡◌, refl, rules, [], inl, inr, map, subst}
use Rattle.dp_columns.specs.Paired.{pairs_of, as_store}
use Rattle.dp_lean_judge.proofs.Storing.{StoresRest, grows_none, all_stored, no_pair, no_first}
use Rattle.dp_lean_judge.proofs.collected.Collected.store_all.Goals as goal

pub loop-cell-init : goal.loop-cell-init
loop-cell-init c = record {
  stores = search rules;
  before = refl;
  grows = grows_none c.args.self.now c.args.self.now refl refl;
}

pub returns-clause-stores : goal.returns-clause-stores
returns-clause-stores c =
    let at = c.loop-cell.cell-iterator in
    let none : pairs_of at.a.rest.now at.b.rest.now ≡ [] = elim (c.in-None.ensures.steps) [
      | inl e ↦ no_first at.a.rest.now at.b.rest.now e.1.0
      | inr e ↦ no_pair at.a.rest.now at.b.rest.now e.1.0
    ] in
    all_stored c.args.compares c.loop-cell.cells c.loop-cell.self (map as_store (pairs_of c.args.stored.now c.args.values.now)) c.args.cells.now c.args.self.now
    (subst (λ ps. StoresRest c.args.compares (map as_store ps) c.loop-cell.cells c.loop-cell.self (map as_store (pairs_of c.args.stored.now c.args.values.now))
    c.args.cells.now c.args.self.now) none c.loop-cell.invariant.stores)
