use Rattle.std.proofs.Common.{◌≡◌, ◌≤◌, ℕ, true}
use Rattle.dp_audit.specs.Copy.{changed_but}
use Rattle.dp_audit.proofs.CopyLemmas.{Listing}
use Rattle.dp_audit.proofs.known.Known.changes.Given as goal

abbrev pub invariant-loop-cell : goal.invariant-loop-cell
invariant-loop-cell l = record {
  locals : l.self.locals ≡ l.fn.self.locals;
  listing : Listing l.fn.self.locals l.now l.fn.self.cells l.self.cells l.sets;
  ahead : (c : ℕ) → changed_but l.fn.self.locals l.self.cells l.now c ≡ true → l.cell ≤ c;
}
