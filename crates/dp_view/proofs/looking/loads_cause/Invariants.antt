use Rattle.std.proofs.Common.{◌≡◌, drop, map}
use Rattle.dp_semantics.specs.CauseWalk.{load_cause_in}
use Rattle.dp_semantics.specs.LoadedCells.{load_from}
use Rattle.dp_view.proofs.looking.loads_cause.Given as goal

abbrev pub invariant-loop-cell : goal.invariant-loop-cell
invariant-loop-cell l =
    load_cause_in l.view l.site.0 (map (load_from l.source) (drop l.cell-index l.cells)) ≡ load_cause_in l.view l.site.0 (map (load_from l.source) l.cells)
