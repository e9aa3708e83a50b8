use Rattle.std.proofs.Common.{◌≡◌, ◌≤◌, drop, Some}
use Rattle.dp_text.proofs.DigitLemmas.{after_digits}
use Rattle.dp_text.proofs.digits.value_upto.Given as goal

abbrev pub invariant-digits : goal.invariant-digits
invariant-digits l = (after_digits l.fn.most (Some l.number) (drop l.digit-index l.fn.digits) ≡ after_digits l.fn.most (Some 0) l.fn.digits)
    × (l.number ≤ l.fn.most)
