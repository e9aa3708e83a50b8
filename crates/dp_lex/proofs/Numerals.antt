-- The value of a number's digits; and the number at the front of a text is the longest token there.
use Rattle.std.proofs.Common.{◌≡◌, ℕ, ◌≤◌, true, false, not, ◌&&◌, ◌==◌, inl, inr, ◌++◌, length, take, drop, slice_index, Some, None, refl, sym, length-take-le}
use Rattle.std.proofs.Common.{take_at, take-append-drop, get_or-drop, get_or-append-add, add-zero, arith, ◌+◌, ◌-◌, ◌*◌, ◌/◌, ◌<◌, [], ◌∷◌, get_or}
use Rattle.std.specs.Char.{is_ascii_digit, digit_value}
use Rattle.std.specs.List.{prefix_len}
use Rattle.std.proofs.lemmas.Bool.{cases_Bool, and_parts, and_from, or_cases, or_left, or_right, eqb-true, eq-eqb, leb-true, le-leb, not-true, not_from_false}
use Rattle.std.proofs.lemmas.Bool.{both_ways, false_from_ne_true, cond_both}
use Rattle.std.proofs.lemmas.List.Sums.{prefix_len-le-length}
use Rattle.dp_lex.specs.declared.TokenKind.{TokenKind}
use Rattle.dp_lex.specs.declared.TokenKind.TheVariants.{Number}
use Rattle.dp_lex.specs.Characters.{Text, is_word}
use Rattle.dp_lex.specs.Spelling.{IsNumberText}
use Rattle.dp_lex.specs.Front.{CanStand}
use Rattle.dp_lex.specs.Scan.{fits_number, is_plain_number, number_scanned}
use Rattle.dp_lex.proofs.Runs.{run_passes, run_exact, run_none, run_some}
use Rattle.dp_lex.proofs.Apart.{digit_no_letter, digit_is_word}
use Rattle.dp_lex.proofs.Standing.{IsFound, first_kind}
use Rattle.std.specs.Str.Parse.{digits_value, digits_value_after}
use Rattle.std.proofs.lemmas.List.{drop_more}
use Rattle.std.proofs.lemmas.Bool.Decides.{nat_tests}

number_kind : (kind : TokenKind) (w z : Text) → CanStand kind w z → is_ascii_digit (slice_index z 0) ≡ true → kind ≡ Number
number_kind kind w z s digit = rw (digit_no_letter (slice_index z 0) digit, digit) at (first_kind kind w z s)

plain_from_leading : (w : Text) → (slice_index w 0 ≡ 48 → length w ≡ 1) → is_plain_number w ≡ true
plain_from_leading w h =
    elim (cases_Bool (slice_index w 0 == 48)) [
      | inl t ↦ or_left _ _ (eq-eqb (length w) 1 (h (eqb-true _ 48 t)))
      | inr t ↦ or_right _ _ (not_from_false _ t)
    ]

leading_from_plain : (w : Text) → is_plain_number w ≡ true → slice_index w 0 ≡ 48 → length w ≡ 1
leading_from_plain w h e =
    elim (or_cases (length w == 1) (not (slice_index w 0 == 48)) h) [
      | inl t ↦ eqb-true (length w) 1 t
      | inr t ↦ absurd (both_ways _ (not-true _ t) (eq-eqb _ 48 e))
    ]

-- the number that can stand at the front is the run of digits, and passes the scan's test
record IsRun (w z : Text) : Type 0 where
  long : prefix_len is_ascii_digit z ≡ length w
  front : take (length w) z ≡ w
  test : (is_plain_number w && fits_number w && not (is_word (slice_index z (length w)))) ≡ true

number_run : (w rest : Text) → IsNumberText w → is_word (slice_index rest 0) ≡ false → IsRun w (w ++ rest)
unfolding fits_number
number_run w rest s alone =
    let next : slice_index (w ++ rest) (length w) ≡ slice_index rest 0 = rw (add-zero (length w)) at (get_or-append-add w rest 0 0) in
    record {
      long = run_exact is_ascii_digit w rest s.digits
          (run_none is_ascii_digit rest (false_from_ne_true _ (λ t. both_ways _ alone (digit_is_word (slice_index rest 0) t))));
      front = take_at w rest (length w) refl;
      test = rw next (and_from _ _ (and_from _ _ (plain_from_leading w s.leading) (le-leb _ 9223372036854775807 s.value)) (not_from_false _ alone));
    }

number_refused : (z : Text) → is_ascii_digit (slice_index z 0) ≡ true →
    (is_plain_number (take (prefix_len is_ascii_digit z) z) && fits_number (take (prefix_len is_ascii_digit z) z) && not
    (is_word (slice_index z (prefix_len is_ascii_digit z)))) ≡ false → (kind : TokenKind) (w : Text) → ¬ CanStand kind w z
number_refused z digit test Number w s =
    let r : IsRun w z = rw s.splits (number_run w s.rest s.spelled s.alone) in
    both_ways _ test (rw (r.long, r.front) r.test)
number_refused z digit test kind w s = absurd (cc (number_kind kind w z s digit))

number_bound : (kind : TokenKind) (w z : Text) → is_ascii_digit (slice_index z 0) ≡ true → CanStand kind w z → length w ≤ prefix_len is_ascii_digit z
number_bound Number w z digit s =
    let r : IsRun w z = rw s.splits (number_run w s.rest s.spelled s.alone) in
    omega (arith, r.long)
number_bound kind w z digit s = absurd (cc (number_kind kind w z s digit))

number_stands : (z : Text) → is_ascii_digit (slice_index z 0) ≡ true →
    (is_plain_number (take (prefix_len is_ascii_digit z) z) && fits_number (take (prefix_len is_ascii_digit z) z) && not
    (is_word (slice_index z (prefix_len is_ascii_digit z)))) ≡ true → CanStand Number (take (prefix_len is_ascii_digit z) z) z
unfolding fits_number
number_stands z digit test =
    let n = prefix_len is_ascii_digit z in let some : 1 ≤ n = run_some is_ascii_digit z refl digit in
    let within = prefix_len-le-length is_ascii_digit z in let parts = and_parts _ _ test in
    let plain_fits = and_parts _ _ parts.0 in
    record {
      rest = drop n z;
      splits = sym (take-append-drop n z);
      spelled = record {
        some = omega (arith, length-take-le n z within, some);
        digits = run_passes is_ascii_digit z n refl;
        leading = leading_from_plain (take n z) plain_fits.0;
        value = leb-true _ 9223372036854775807 plain_fits.1;
      };
      alone = rw (get_or-drop n z 0 0, add-zero n) (not-true _ parts.1);
    }

pub number_found : (z : Text) → is_ascii_digit (slice_index z 0) ≡ true → IsFound z (number_scanned z)
unfolding number_scanned
number_found z digit =
    let n = prefix_len is_ascii_digit z in
    cond_both (is_plain_number (take n z) && fits_number (take n z) && not (is_word (slice_index z n))) (Some (Number, n)) None (IsFound z)
    (λ test. (number_stands z digit test, λ kind w s. number_bound kind w z digit s, prefix_len-le-length is_ascii_digit z))
    (λ test. number_refused z digit test)

-- more digits make no smaller number
value_grows : (n : ℕ) (w : Text) → n ≤ digits_value_after 10 n w
value_grows n [] = omega arith
value_grows n (b ∷ w) = omega (arith, value_grows (n * 10 + digit_value b) w)

digit_value_is : (b : ℕ) → is_ascii_digit b ≡ true → digit_value b ≡ b - 48
digit_value_is b h = grind (arith, nat_tests)

-- the digits so far and one more make the number too large
pub too_large : (w : Text) (i n : ℕ) → i < length w → is_ascii_digit (get_or w i 0) ≡ true → digits_value_after 10 n (drop i w) ≡ digits_value 10 w →
    (9223372036854775807 - (get_or w i 0 - 48)) / 10 < n → 9223372036854775807 < digits_value 10 w
too_large w i n h digit so_far large =
    let b = get_or w i 0 in let value : digit_value b ≡ b - 48 = digit_value_is b digit in
    let next : digits_value_after 10 n (drop i w) ≡ digits_value_after 10 (n * 10 + digit_value b) (drop (i + 1) w) = rw (drop_more w i 0 h) in
    let grows = value_grows (n * 10 + digit_value b) (drop (i + 1) w) in
    omega (arith, so_far, next, grows, value, large)
