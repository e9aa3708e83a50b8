use Rattle.std.proofs.Common.{◌≡◌, drop}
use Rattle.dp_tree.specs.Step.{clear_locals}
use Rattle.dp_auditor.proofs.lines.without_locals.Given as goal

abbrev pub invariant-loop-info : goal.invariant-loop-info
invariant-loop-info l = record {
  items : l.info-items ≡ l.program.vars;
  so : clear_locals l.region (drop l.info-index l.info-items) l.memory ≡ clear_locals l.region l.program.vars l.cells;
}
