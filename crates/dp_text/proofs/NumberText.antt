-- A number's decimal, and the word that writes it.
use Rattle.std.proofs.Common.{◌≡◌, ℕ, zero, suc, ◌^◌, ◌<◌, ◌≤◌, ◌==◌, Bool, true, false, ◌&&◌, nat_le, List, [], ◌∷◌, length, get_or, Some, None, decimal, refl}
use Rattle.std.proofs.Common.{sym, ap, ◌∙◌, rules, arith, tests}
use Rattle.std.specs.Prelude.{if◌then◌else◌}
use Rattle.std.specs.List.{list_all}
use Rattle.std.proofs.lemmas.Str.Parse.{IsNumeralModel, numerals_by_fold}
use Rattle.std.proofs.lemmas.Fmt.{digits_decimal, digits_value-decimal, decimal_nonempty, first_decimal, decimal-digits_value, decimal_digit}
use Rattle.dp_text.specs.Digits.{is_digit, value_after, value_upto}
use Rattle.dp_text.specs.Words.{is_plain_digits, number_upto, small_number}

own : IsNumeralModel (λ ds. list_all is_digit ds ≡ true) (value_after 0)
own = numerals_by_fold _ (search rules) value_after (search rules)

pub digits-decimal : (n : ℕ) → n < 2 ^ 64 → list_all is_digit (decimal n) ≡ true
digits-decimal n h = digits_decimal own n h

plain_first : (ds : List ℕ) → 0 < length ds → 48 < get_or ds 0 0 → is_plain_digits ds ≡ true
plain_first [] lt first = absurd (omega (arith, lt))
plain_first (d ∷ []) lt first = refl
plain_first (d ∷ e ∷ rest) lt first = let other : (d == 48) ≡ false = search (rules, tests) in rw other refl

plain-decimal : (n : ℕ) → n < 2 ^ 64 → is_plain_digits (decimal n) ≡ true
plain-decimal zero h = rw (decimal_digit 0 (omega arith)) refl
plain-decimal (suc n) h = plain_first (decimal (suc n)) (decimal_nonempty (suc n) h) (first_decimal (suc n) (omega arith) h)

plain_full : (ds : List ℕ) → is_plain_digits ds ≡ true → 0 < length ds
plain_full [] h = absurd (cc h)
plain_full (d ∷ rest) h = omega arith

plain_zero : (ds : List ℕ) → is_plain_digits ds ≡ true → get_or ds 0 0 ≡ 48 → length ds ≡ 1
plain_zero [] h first = absurd (cc h)
plain_zero (d ∷ []) h first = refl
plain_zero (d ∷ e ∷ rest) h first =
    let same : (d == 48) ≡ true = search (rules, tests) in
    let no : false ≡ true = rw same at h in absurd (cc no)

-- the word writes the number, which is at most `most`
pub record Writes (most : ℕ) (word : List ℕ) (n : ℕ) : Type 0 where
  pub is : word ≡ decimal n
  pub small : n ≤ most

module _ (most : ℕ) (wide : most < 2 ^ 64) where
  value_some : (a : Bool) (v n : ℕ) → a ≡ true → v ≡ n → n ≤ most → (if a && nat_le v most then Some v else None) ≡ Some n
  value_some a v n e w h =
      let t : nat_le n most ≡ true = search rules in rw (e, w) (rw t refl)

  pub number-decimal : (n : ℕ) → n ≤ most → number_upto most (decimal n) ≡ Some n
  number-decimal n h =
      let low : n < 2 ^ 64 = omega (arith, h, wide) in
      rw (plain-decimal n low) (value_some (list_all is_digit (decimal n)) (value_after 0 (decimal n)) n (digits-decimal n low)
      (digits_value-decimal own n low) h)

  record Kept (a : Bool) (v n : ℕ) : Type 0 where
    digits : a ≡ true
    same : v ≡ n
    small : v ≤ most

  kept_case : (a : Bool) (v n : ℕ) (fits : Bool) → nat_le v most ≡ fits → (if a && fits then Some v else None) ≡ Some n → Kept a v n
  kept_case true v n true e h = record { digits = refl; same = cc h; small = search rules }
  kept_case _ v n _ e h = absurd (cc h)

  plain_case : (word : List ℕ) (n : ℕ) (plain : Bool) → is_plain_digits word ≡ plain →
      (if plain then value_upto most word else None) ≡ Some n → Writes most word n
  plain_case word n true e h =
      let k : Kept (list_all is_digit word) (value_after 0 word) n = kept_case _ _ n _ refl h in
      record {
        is = sym (decimal-digits_value own word k.digits (plain_full word e) (plain_zero word e) (omega (arith, k.small, wide))) ∙ ap decimal k.same;
        small = omega (arith, k.small, k.same);
      }
  plain_case word n false e h = absurd (cc h)

  pub number-sound : (word : List ℕ) (n : ℕ) → number_upto most word ≡ Some n → Writes most word n
  number-sound word n h = plain_case word n _ refl h

pub number_of-decimal : (n : ℕ) → n < 2 ^ 32 → small_number (decimal n) ≡ Some n
number_of-decimal n h = number-decimal 4294967295 (omega arith) n (omega (arith, h))
