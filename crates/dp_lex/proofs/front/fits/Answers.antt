use Rattle.std.proofs.Common.{◌<◌, ◌-◌, ◌/◌, length, get_or, sym, rules, arith}
use Rattle.std.proofs.lemmas.Bool.{lt-leb}
use Rattle.std.specs.Str.Parse.{digits_value}
use Rattle.dp_lex.specs.Scan.{fits_number}
use Rattle.dp_lex.proofs.Numerals.{too_large}
use Rattle.dp_lex.proofs.front.fits.Goals as goal

pub returns-then-value-digit : goal.returns-then-value-digit
unfolding fits_number
returns-then-value-digit c =
    let w = c.args.digits.now in let i = c.loop-b.b-index in let within : i < length w = omega arith in
    let large : (9223372036854775807 - (get_or w i 0 - 48)) / 10 < c.loop-b.value = search rules in
    let beyond = too_large w i c.loop-b.value within (c.requires i 0 within) c.loop-b.invariant.0 large in
    sym (lt-leb (digits_value 10 w) 9223372036854775807 beyond)
