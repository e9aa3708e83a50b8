-- A number's digits, one after the other.
use Rattle.std.proofs.Common.{◌≡◌, refl, ap, ap₂, ◌∙◌, sym, ℕ, ◌+◌, ◌-◌, ◌*◌, ◌<◌, ◌≤◌, ℤ, pos, Bool, true, false, ◌&&◌, nat_le, if◌then◌else◌, List, length}
use Rattle.std.proofs.Common.{take, get_or, Option, Some, None, arith}
use Rattle.std.specs.Char.{is_ascii_digit, digit_value}
use Rattle.std.specs.List.{list_all}
use Rattle.std.specs.Str.Parse.{digits_value}
use Rattle.std.proofs.lemmas.Bool.{lt-leb, le-leb}
use Rattle.std.proofs.lemmas.List.Folds.{list_all_at, list_all_more}
use Rattle.std.proofs.lemmas.Int.Digits.{digits_value_more}
use Rattle.std.proofs.lemmas.Str.Parse.{digits_value-take-le}
use Rattle.dp_tokens.specs.Numbers.{number_value}

answer : List ℕ → Bool → Bool → Option ℤ
answer digits a b = if a && b then Some (pos (digits_value 10 digits)) else None

opened : (digits : List ℕ) → number_value digits ≡ answer digits (list_all is_ascii_digit digits) (nat_le (digits_value 10 digits) 9223372036854775807)
unfolding number_value answer
opened digits = refl

no_digit : (digits : List ℕ) (b : Bool) → answer digits false b ≡ None
unfolding answer
no_digit digits b = refl

too_large : (digits : List ℕ) (a : Bool) → answer digits a false ≡ None
unfolding answer
too_large digits true = refl
too_large digits false = refl

pub number_not_digit : (digits : List ℕ) (i : ℕ) → i < length digits → is_ascii_digit (get_or digits i 0) ≡ false → number_value digits ≡ None
number_not_digit digits i within bad =
    opened digits ∙ ap (λ (a : Bool). answer digits a (nat_le (digits_value 10 digits) 9223372036854775807)) (list_all_at is_ascii_digit digits i 0 within bad)
    ∙ no_digit digits _

pub number_too_large : (digits : List ℕ) (i : ℕ) → 9223372036854775807 < digits_value 10 (take i digits) → number_value digits ≡ None
number_too_large digits i above =
    let le = digits_value-take-le 10 digits i (omega arith) in
    let large : 9223372036854775807 < digits_value 10 digits = omega arith in
    opened digits ∙ ap (answer digits (list_all is_ascii_digit digits)) (lt-leb (digits_value 10 digits) 9223372036854775807 large)
    ∙ too_large digits (list_all is_ascii_digit digits)

pub number_is : (digits : List ℕ) (n : ℕ) → n ≡ digits_value 10 digits → n ≤ 9223372036854775807 → list_all is_ascii_digit digits ≡ true →
    number_value digits ≡ Some (pos n)
unfolding answer
number_is digits n same fits all =
    let small : digits_value 10 digits ≤ 9223372036854775807 = omega arith in
    opened digits ∙ ap₂ (answer digits) all (le-leb (digits_value 10 digits) 9223372036854775807 small) ∙ ap (λ (k : ℕ). Some (pos k)) (sym same)

pub digits_next : (digits : List ℕ) (i : ℕ) → i < length digits → digit_value (get_or digits i 0) ≡ get_or digits i 0 - 48 →
    digits_value 10 (take (i + 1) digits) ≡ 10 * digits_value 10 (take i digits) + (get_or digits i 0 - 48)
digits_next digits i within e = let h = digits_value_more 10 digits i within in omega arith

pub all_next : (digits : List ℕ) (i : ℕ) → i < length digits → list_all is_ascii_digit (take i digits) ≡ true → is_ascii_digit (get_or digits i 0) ≡ true →
    list_all is_ascii_digit (take (i + 1) digits) ≡ true
all_next digits i within before here = list_all_more is_ascii_digit digits i 0 within ∙ ap₂ (λ (a b : Bool). a && b) before here
