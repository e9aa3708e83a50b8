use Rattle.std.proofs.Common.{◌≡◌, ◌∙◌, [], inl, inr, sym, ap}
use Rattle.std.specs.List.{list_all}
use Rattle.dp_lean.specs.LeanJudge.{load_holds}
use Rattle.dp_columns.specs.Paired.{pairs_of}
use Rattle.dp_lean_judge.proofs.Storing.{no_first, no_pair}
use Rattle.dp_lean_judge.proofs.reading.hold.Goals as goal

pub returns : goal.returns
returns c =
    let at = c.loop-cell.cell-iterator in
    let none : pairs_of at.a.rest.now at.b.rest.now ≡ [] = elim (c.in-None.ensures.steps) [
      | inl e ↦ no_first at.a.rest.now at.b.rest.now e.1.0
      | inr e ↦ no_pair at.a.rest.now at.b.rest.now e.1.0
    ] in
    ap (list_all (load_holds c.args.cells.now)) (sym none) ∙ c.loop-cell.invariant
