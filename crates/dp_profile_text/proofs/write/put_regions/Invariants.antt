use Rattle.std.proofs.Common.{◌≡◌, ◌+◌, ◌++◌}
use Rattle.dp_profile_text.specs.WrittenText.{regions_text}
use Rattle.dp_profile_text.proofs.write.put_regions.Given as goal

abbrev pub invariant-loop-place : goal.invariant-loop-place
invariant-loop-place l = l.out ++ regions_text (l.place-iterator.count + 1) l.place-iterator.iter.a.rest.now l.place-iterator.iter.b.rest.now ≡ l.initial.out
    ++ regions_text 1 l.all l.shown
