use Rattle.std.proofs.Common.{◌≡◌, ℕ, ◌-◌, ◌^◌, drop}
use Rattle.dp_observe.specs.Sparse.{at}
use Rattle.dp_observe.specs.steps.Owners.{owner_after}
use Rattle.dp_observe.proofs.owners.owners_of.Given as goal

abbrev pub invariant-loop-place : goal.invariant-loop-place
invariant-loop-place l = record {
  given : (n : ℕ) → owner_after n l.place (at l.owners n) (drop l.place l.regions) ≡ owner_after n 0 (2 ^ 64 - 1) l.regions;
}
