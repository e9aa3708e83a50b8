use Rattle.std.proofs.Common.{◌≡◌, ◌++◌, map, drop}
use Rattle.dp_observe.specs.steps.Frames.{blank}
use Rattle.dp_observe.proofs.counter.tallies.Given as goal

abbrev pub invariant-loop-site : goal.invariant-loop-site
invariant-loop-site l = l.all ++ map (λ _. blank) (drop l._site-index l.sites) ≡ map (λ _. blank) l.sites
