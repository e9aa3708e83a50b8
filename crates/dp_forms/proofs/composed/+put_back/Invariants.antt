use Rattle.std.proofs.Common.{length}
use Rattle.dp_forms.proofs.composed.+put_back.Given as goal

abbrev pub decreases-put_back : goal.decreases-put_back
decreases-put_back l = length l.homes.now
