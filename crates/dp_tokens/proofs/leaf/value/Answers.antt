use Rattle.std.proofs.Common.{ap, ◌∙◌, sym, arith, ◌+◌, get_or, Some}
use Rattle.std.specs.Str.Parse.{digits_value}
use Rattle.std.proofs.lemmas.Bool.Decides.{when_true}
use Rattle.std.proofs.lemmas.Int.{to_z_pos}
use Rattle.std.proofs.lemmas.List.{take_all}
use Rattle.std.proofs.lemmas.Str.{digit_value_digit}
use mir.Syntax.{w64}
use Rattle.dp_tokens.proofs.NumberSteps.{number_not_digit, number_too_large, number_is, digits_next, all_next}
use Rattle.dp_tokens.proofs.leaf.value.Goals as goal

pub returns-then-not-is_ascii_digit : goal.returns-then-not-is_ascii_digit
returns-then-not-is_ascii_digit c =
    sym (number_not_digit c.args.digits.now c.loop-digit.digit-index (omega arith) (sym c.is_ascii_digit.ensures.value ∙ c.if-not-is_ascii_digit.true))

pub returns-then-value-gt-MAX_NUMBER : goal.returns-then-value-gt-MAX_NUMBER
returns-then-value-gt-MAX_NUMBER c =
    let ds = c.args.digits.now in
    let i = c.loop-digit.digit-index in
    let here = digit_value_digit (get_or ds i 0) (when_true _ _ c.if-not-is_ascii_digit.false c.is_ascii_digit.ensures.cases) in
    let next = digits_next ds i c.loop-digit-test.true (omega arith) in
    let value = c.loop-digit.invariant.0 in
    sym (number_too_large ds (i + 1) (omega arith))

pub loop-digit-preserved : goal.loop-digit-preserved
loop-digit-preserved c =
    let ds = c.args.digits.now in
    let i = c.loop-digit.digit-index in
    let here = digit_value_digit (get_or ds i 0) (when_true _ _ c.if-not-is_ascii_digit.false c.is_ascii_digit.ensures.cases) in
    let next = digits_next ds i c.loop-digit-test.true (omega arith) in
    let value = c.loop-digit.invariant.0 in (
      omega arith,
      omega arith,
      all_next ds i c.loop-digit-test.true c.loop-digit.invariant.2 (sym c.is_ascii_digit.ensures.value
          ∙ c.if-not-is_ascii_digit.false),
    )

pub returns : goal.returns
returns c =
    let all = take_all c.loop-digit.digit-index c.args.digits.now (omega arith) in
    let i = c.loop-digit.invariant in
    let bound = i.1 in
    ap Some (to_z_pos w64 c.loop-digit.value (omega arith))
    ∙ sym (number_is c.args.digits.now c.loop-digit.value (i.0 ∙ ap (digits_value 10) all) i.1 (rw all at i.2))
