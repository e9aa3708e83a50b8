use Rattle.std.proofs.Common.{◌≡◌}
use Rattle.std.specs.List.{list_all}
use Rattle.dp_lean.specs.LeanJudge.{load_holds}
use Rattle.dp_columns.specs.Paired.{pairs_of}
use Rattle.dp_lean_judge.proofs.reading.hold.Given as goal

abbrev pub invariant-loop-cell : goal.invariant-loop-cell
invariant-loop-cell l =
    list_all (load_holds l.cells) (pairs_of l.cell-iterator.a.rest.now l.cell-iterator.b.rest.now) ≡ list_all (load_holds l.cells) (pairs_of l.loaded l.values)
