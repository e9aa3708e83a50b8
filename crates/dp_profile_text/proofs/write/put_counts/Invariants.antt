use Rattle.std.proofs.Common.{◌≡◌, ◌++◌}
use Rattle.dp_profile_text.specs.WrittenText.{runs_text}
use Rattle.dp_profile_text.proofs.write.put_counts.Given as goal

abbrev pub invariant-loop-site : goal.invariant-loop-site
invariant-loop-site l = l.out ++ runs_text l.site-iterator.a.rest.now l.site-iterator.b.rest.now ≡ l.initial.out ++ runs_text l.sites l.counts
