use Rattle.std.proofs.Common.{◌≡◌, length}
use Rattle.dp_load.proofs.EachLemmas.{ReadSoFar}
use Rattle.dp_load.proofs.list.load_each.Given as goal

abbrev pub invariant-loop-name : goal.invariant-loop-name
invariant-loop-name g l = record {
  held : g.S.Shelf.contents l.shelf ≡ g.S.Shelf.contents l.initial.shelf;
  faults : g.S.Shelf.faults l.shelf ≡ g.S.Shelf.faults l.initial.shelf;
  failed : g.S.Shelf.failed_names l.shelf ≡ g.S.Shelf.failed_names l.initial.shelf;
  count : length l.inputs ≡ l.name-index;
  read : ReadSoFar (g.S.Shelf.contents l.initial.shelf) l.names l.name-index l.inputs;
}
