use Rattle.std.proofs.Common.{◌≡◌, ℕ, if◌then◌else◌, drop}
use Rattle.dp_profile.specs.Sites.{has_numbered_site}
use Rattle.dp_observe.specs.Sparse.{at}
use Rattle.dp_observe.proofs.owners.give.Given as goal

abbrev pub invariant-loop-site : goal.invariant-loop-site
invariant-loop-site l = record {
  given : (n : ℕ) → (if has_numbered_site n (drop l.site-index l.sites) then l.place else at l.owners n) ≡ (if has_numbered_site n l.sites then l.place
      else at l.fn.owners n);
}
