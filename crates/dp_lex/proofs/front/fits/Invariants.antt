use Rattle.std.proofs.Common.{◌≡◌, ◌≤◌, drop}
use Rattle.std.specs.Str.Parse.{digits_value, digits_value_after}
use Rattle.dp_lex.proofs.front.fits.Given as goal

abbrev pub invariant-loop-b : goal.invariant-loop-b
invariant-loop-b l = (digits_value_after 10 l.value (drop l.b-index l.digits) ≡ digits_value 10 l.digits) × (l.value ≤ 9223372036854775807)
