-- The quotient and the rest of 64-bit numbers.
use Rattle.std.proofs.Common.{◌≢◌, ℕ, zero, suc, ◌%◌, ◌<◌, ℤ, pos, negsuc, neg_ℤ, ◌≤ℤ◌, unsigned_abs, int_div, int_rem, refl, sym, subst, rules, arith}
use Rattle.std.proofs.Math.Nat.{zero-mod}
use Rattle.std.proofs.lemmas.Int.{quot-rem, rem_below}
use Rattle.dp_base.specs.Division.{IsDivision}

abs_positive : (b : ℤ) → b ≢ pos 0 → 0 < unsigned_abs b
abs_positive (pos zero) some = absurd (some refl)
abs_positive (pos (suc n)) some = omega arith
abs_positive (negsuc n) some = omega arith

neg_below : (n : ℕ) → neg_ℤ (pos n) ≤ℤ pos 0
neg_below zero = search rules
neg_below (suc n) = search rules

rest_not_below : (a b : ℤ) → pos 0 ≤ℤ a → pos 0 ≤ℤ int_rem a b
rest_not_below (pos a) b le = search rules
rest_not_below (negsuc a) b le = absurd (search rules)

rest_not_above : (a b : ℤ) → 0 < unsigned_abs b → a ≤ℤ pos 0 → int_rem a b ≤ℤ pos 0
rest_not_above (pos zero) b some le = subst (λ n. pos n ≤ℤ pos 0) (sym (zero-mod (unsigned_abs b))) (search rules)
rest_not_above (pos (suc a)) b some le = absurd (search rules)
rest_not_above (negsuc a) b some le = neg_below (suc a % unsigned_abs b)

pub is_division : (a b : ℤ) → b ≢ pos 0 → IsDivision a b (int_div a b) (int_rem a b)
is_division a b some = record {
  whole = quot-rem a b;
  smaller = rem_below a b (abs_positive b some);
  not_below = rest_not_below a b;
  not_above = rest_not_above a b (abs_positive b some);
}
