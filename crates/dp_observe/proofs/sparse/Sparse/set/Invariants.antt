use Rattle.std.proofs.Common.{◌≡◌, ℕ, ◌+◌, ◌-◌, length, get_or}
use Rattle.dp_observe.proofs.sparse.Sparse.set.Given as goal

abbrev pub invariant-loop-self : goal.invariant-loop-self
invariant-loop-self g l = record {
  same : l.self.rest ≡ l.initial.self.rest;
  items : (k : ℕ) → get_or l.self.items k l.initial.self.rest ≡ get_or l.initial.self.items k l.initial.self.rest;
}

abbrev pub decreases-loop-self : goal.decreases-loop-self
decreases-loop-self g l = l.place + 1 - length l.self.items
