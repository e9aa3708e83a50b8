use Rattle.std.proofs.Common.{◌≡◌, ◌++◌, map, drop}
use Rattle.dp_observe.proofs.profile.counts.Given as goal

abbrev pub invariant-loop-tally : goal.invariant-loop-tally
invariant-loop-tally l = l.all ++ map (λ t. t.count) (drop l.tally-index l.tallies) ≡ map (λ t. t.count) l.tallies
