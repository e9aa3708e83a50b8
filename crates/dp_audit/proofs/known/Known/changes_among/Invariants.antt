use Rattle.std.proofs.Common.{◌≡◌, ℕ, true, drop}
use Rattle.std.specs.List.Sorted.{IsNonDecreasing}
use Rattle.dp_plan.specs.Written.{has}
use Rattle.dp_audit.specs.Copy.{changed_but}
use Rattle.dp_audit.proofs.CopyLemmas.{Listing}
use Rattle.dp_audit.proofs.known.Known.changes_among.Given as goal

abbrev pub invariant-loop-cell : goal.invariant-loop-cell
invariant-loop-cell l = record {
  locals : l.self.locals ≡ l.fn.self.locals;
  ascending : IsNonDecreasing l.cell-items;
  listing : Listing l.fn.self.locals l.now l.fn.self.cells l.self.cells l.sets;
  ahead : (c : ℕ) → changed_but l.fn.self.locals l.self.cells l.now c ≡ true → has c (drop l.cell-index l.cell-items) ≡ true;
}
