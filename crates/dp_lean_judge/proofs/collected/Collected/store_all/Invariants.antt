use Rattle.std.proofs.Common.{map}
use Rattle.dp_columns.specs.Paired.{pairs_of, as_store}
use Rattle.dp_lean_judge.specs.Collecting.{Grows, SameBefore}
use Rattle.dp_lean_judge.proofs.Storing.{StoresRest}
use Rattle.dp_lean_judge.proofs.collected.Collected.store_all.Given as goal

abbrev pub invariant-loop-cell : goal.invariant-loop-cell
invariant-loop-cell l = record {
  stores : StoresRest l.compares (map as_store (pairs_of l.cell-iterator.a.rest.now l.cell-iterator.b.rest.now)) l.cells l.self
      (map as_store (pairs_of l.stored l.values)) l.initial.cells l.initial.self;
  before : SameBefore l.initial.cells l.initial.self l.cells l.self;
  grows : Grows l.initial.self l.self;
}
