-- A number read digit by digit.
use Rattle.std.proofs.Common.{◌≡◌, ℕ, ◌+◌, ◌-◌, ◌*◌, ◌<◌, ◌≤◌, Bool, true, false, ◌&&◌, nat_le, List, [], ◌∷◌, length, drop, Some, None, slice_index_or, refl}
use Rattle.std.proofs.Common.{sym, ap, ◌∙◌, rules, arith, le_refl}
use Rattle.std.specs.Prelude.{if◌then◌else◌}
use Rattle.std.specs.List.{list_all}
use Rattle.std.specs.declared.option.Option.{Option}
use Rattle.std.proofs.lemmas.List.{at_drop_more, at_drop_all}
use Rattle.dp_text.specs.Digits.{is_digit, value_after, digit_after, value_upto}

module _ (most : ℕ) where
  -- the number after these digits too, unless it was lost already
  abbrev pub after_digits : Option ℕ → List ℕ → Option ℕ
  after_digits None digits = None
  after_digits (Some n) [] = Some n
  after_digits (Some n) (digit ∷ digits) = after_digits (digit_after most n digit) digits

  -- what a number of such a value is read as
  abbrev pub kept : Bool → ℕ → Option ℕ
  kept digits value = if digits && nat_le value most then Some value else None

  pub value_after-le : (n : ℕ) (digits : List ℕ) → n ≤ value_after n digits
  value_after-le n [] = le_refl n
  value_after-le n (digit ∷ digits) = omega (arith, value_after-le (n * 10 + (digit - 48)) digits)

  -- a number that is too large isn't read
  lost : (digits : Bool) (value : ℕ) → nat_le value most ≡ false → kept digits value ≡ None
  lost true value e = rw e refl
  lost false value e = refl

  digit_case : (n digit : ℕ) (digits : List ℕ) (is fits : Bool) → is_digit digit ≡ is → nat_le (n * 10 + (digit - 48)) most ≡ fits
      → ((m : ℕ) → m ≤ most → after_digits (Some m) digits ≡ kept (list_all is_digit digits) (value_after m digits))
      → after_digits (digit_after most n digit) digits ≡ kept (is_digit digit && list_all is_digit digits) (value_after (n * 10 + (digit - 48)) digits)
  digit_case n digit digits false fits e f more = rw e refl
  digit_case n digit digits true true e f more = rw (e, f) (more (n * 10 + (digit - 48)) (search rules))
  digit_case n digit digits true false e f more =
      let high : most < n * 10 + (digit - 48) = search rules in
      let higher : most < value_after (n * 10 + (digit - 48)) digits = omega (arith, high, value_after-le (n * 10 + (digit - 48)) digits) in
      rw (e, f) (sym (lost (list_all is_digit digits) _ (search rules)))

  pub after_digits_is : (digits : List ℕ) (n : ℕ) → n ≤ most → after_digits (Some n) digits ≡ kept (list_all is_digit digits) (value_after n digits)
  after_digits_is [] n lt = let fits : nat_le n most ≡ true = search rules in rw fits refl
  after_digits_is (digit ∷ digits) n lt =
      digit_case n digit digits (is_digit digit) (nat_le (n * 10 + (digit - 48)) most) refl refl (λ m small. after_digits_is digits m small)

  value_is : (digits : List ℕ) → value_upto most digits ≡ after_digits (Some 0) digits
  value_is digits = sym (after_digits_is digits 0 (omega arith))

  -- at a digit that can't be added there is no number
  pub value_lost : (digits : List ℕ) (i n d : ℕ) → i < length digits
      → after_digits (Some n) (drop i digits) ≡ after_digits (Some 0) digits → digit_after most n (slice_index_or digits i d) ≡ None →
      value_upto most digits ≡ None
  value_lost digits i n d lt so_far none =
      value_is digits ∙ sym so_far ∙ at_drop_more (after_digits (Some n)) digits i d lt ∙ ap (λ o. after_digits o (drop (i + 1) digits)) none

  -- behind all digits there is the number
  pub value_found : (digits : List ℕ) (i n : ℕ) → length digits ≤ i
      → after_digits (Some n) (drop i digits) ≡ after_digits (Some 0) digits → value_upto most digits ≡ Some n
  value_found digits i n le so_far =
      value_is digits ∙ sym so_far ∙ at_drop_all (after_digits (Some n)) digits i le
