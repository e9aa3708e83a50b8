use Rattle.std.proofs.Common.{length}
use Rattle.dp_view.specs.Changed.{differs}
use Rattle.dp_auditor.proofs.ChangeLemmas.{found_next}
use Rattle.dp_auditor.proofs.lines.put_changed.Goals as goal

pub loop-cell-preserved : goal.loop-cell-preserved
loop-cell-preserved c =
    found_next (differs c.args.before.now c.args.after.now) (length c.args.after.now) c.loop-cell.cell c.loop-cell.out _ _ c.loop-cell-test.true
    c.in_ok-put_if_changed.ensures c.loop-cell.invariant
