use Rattle.std.proofs.Common.{◌≡◌, drop}
use Rattle.dp_check.specs.Place.{place_passed, parts_all}
use Rattle.dp_check.proofs.numbers.+numbers.Given as goal

abbrev pub invariant-pass_all-loop-s : goal.invariant-pass_all-loop-s
invariant-pass_all-loop-s l = place_passed l.fn.place (parts_all l.all) ≡ place_passed l.place (parts_all (drop l.s-index l.all))
