use Rattle.std.proofs.Common.{◌≡◌, ◌++◌}
use Rattle.dp_observe.specs.steps.Taken.{regions_taken}
use Rattle.dp_observe.proofs.profile.profiles.Given as goal

abbrev pub invariant-loop-sites : goal.invariant-loop-sites
invariant-loop-sites l = l.all ++ regions_taken l.sites-iterator.a.rest.now l.sites-iterator.b.rest.now ≡ regions_taken l.regions l.counters
