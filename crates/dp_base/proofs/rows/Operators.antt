-- Every operator on numbers of both signs, and at the edges of 64 bits.
use Rattle.std.proofs.Common.{◌≡◌, refl, ◌<◌, ◌≤ℤ◌, ◌+ℤ◌, ◌*ℤ◌, true, false, List, [], ◌∷◌, map, ℤ, pos, negsuc, unsigned_abs, Result, Ok, Err}
use Rattle.dp_base.specs.declared.FaultKind.{FaultKind}
use Rattle.dp_base.specs.declared.FaultKind.TheVariants.{Overflow, Divide}
use Rattle.dp_base.specs.declared.BinOp.TheVariants.{Mul, Div, Rem, Add, Sub, Lt, Le, Gt, Ge, Eq, Ne}
use Rattle.dp_base.specs.declared.UnOp.TheVariants.{Neg, Not}
use Rattle.dp_base.specs.Arithmetic.{fits, is_zero, number_of, binary_result, unary_result}
use Rattle.dp_base.specs.Division.{IsDivision}

abbrev Answer : Type 0
Answer = Result ℤ FaultKind

-- `*`, `/`, `%`, `+` and `-`
abbrev computed : ℤ → ℤ → List Answer
computed a b = map (λ op. binary_result op a b) (Mul ∷ Div ∷ Rem ∷ Add ∷ Sub ∷ [])

-- `<`, `<=`, `>`, `>=`, `==` and `!=`
abbrev compared : ℤ → ℤ → List Answer
compared a b = map (λ op. binary_result op a b) (Lt ∷ Le ∷ Gt ∷ Ge ∷ Eq ∷ Ne ∷ [])

abbrev greatest : ℤ
greatest = pos 9223372036854775807

abbrev least : ℤ
least = negsuc 9223372036854775807

-- a quotient is rounded toward zero, and a rest has the sign of the dividend
below_by_above : computed (negsuc 6) (pos 2) ≡ Ok (negsuc 13) ∷ Ok (negsuc 2) ∷ Ok (negsuc 0) ∷ Ok (negsuc 4) ∷ Ok (negsuc 8) ∷ []
unfolding binary_result is_zero
below_by_above = refl

above_by_below : computed (pos 7) (negsuc 1) ≡ Ok (negsuc 13) ∷ Ok (negsuc 2) ∷ Ok (pos 1) ∷ Ok (pos 5) ∷ Ok (pos 9) ∷ []
unfolding binary_result is_zero
above_by_below = refl

below_by_below : computed (negsuc 6) (negsuc 1) ≡ Ok (pos 14) ∷ Ok (pos 3) ∷ Ok (negsuc 0) ∷ Ok (negsuc 8) ∷ Ok (negsuc 4) ∷ []
unfolding binary_result is_zero
below_by_below = refl

by_zero : computed (pos 3) (pos 0) ≡ Ok (pos 0) ∷ Err Divide ∷ Err Divide ∷ Ok (pos 3) ∷ Ok (pos 3) ∷ []
unfolding binary_result is_zero
by_zero = refl

-- the rest is 0, but its quotient doesn't fit
least_by_minus_one : computed least (negsuc 0) ≡ Err Overflow ∷ Err Overflow ∷ Err Overflow ∷ Err Overflow ∷ Ok (negsuc 9223372036854775806) ∷ []
unfolding binary_result is_zero
least_by_minus_one = refl

least_by_one : computed least (pos 1) ≡ Ok least ∷ Ok least ∷ Ok (pos 0) ∷ Ok (negsuc 9223372036854775806) ∷ Err Overflow ∷ []
unfolding binary_result is_zero
least_by_one = refl

greatest_by_two : computed greatest (pos 2) ≡ Err Overflow ∷ Ok (pos 4611686018427387903) ∷ Ok (pos 1) ∷ Err Overflow ∷ Ok (pos 9223372036854775805) ∷ []
unfolding binary_result is_zero
greatest_by_two = refl

less : compared (negsuc 0) (pos 0) ≡ Ok (pos 1) ∷ Ok (pos 1) ∷ Ok (pos 0) ∷ Ok (pos 0) ∷ Ok (pos 0) ∷ Ok (pos 1) ∷ []
unfolding binary_result number_of
less = refl

same : compared (negsuc 4) (negsuc 4) ≡ Ok (pos 0) ∷ Ok (pos 1) ∷ Ok (pos 0) ∷ Ok (pos 1) ∷ Ok (pos 1) ∷ Ok (pos 0) ∷ []
unfolding binary_result number_of
same = refl

greater : compared greatest least ≡ Ok (pos 0) ∷ Ok (pos 0) ∷ Ok (pos 1) ∷ Ok (pos 1) ∷ Ok (pos 0) ∷ Ok (pos 1) ∷ []
unfolding binary_result number_of
greater = refl

negated : map (unary_result Neg) (pos 0 ∷ pos 5 ∷ negsuc 4 ∷ greatest ∷ least ∷ []) ≡ Ok (pos 0) ∷ Ok (negsuc 4) ∷ Ok (pos 5)
    ∷ Ok (negsuc 9223372036854775806) ∷ Err Overflow ∷ []
unfolding unary_result
negated = refl

not_zero : map (unary_result Not) (pos 0 ∷ pos 1 ∷ negsuc 0 ∷ least ∷ []) ≡ Ok (pos 1) ∷ Ok (pos 0) ∷ Ok (pos 0) ∷ Ok (pos 0) ∷ []
unfolding unary_result is_zero number_of
not_zero = refl

edges : map fits (greatest ∷ pos 9223372036854775808 ∷ least ∷ negsuc 9223372036854775808 ∷ []) ≡ true ∷ false ∷ true ∷ false ∷ []
edges = refl

-- what a quotient and a rest are, written out
module _ (a b quotient rest : ℤ) (division : IsDivision a b quotient rest) where
  whole : quotient *ℤ b +ℤ rest ≡ a
  whole = division.whole

  smaller : unsigned_abs rest < unsigned_abs b
  smaller = division.smaller

  not_below : pos 0 ≤ℤ a → pos 0 ≤ℤ rest
  not_below = division.not_below

  not_above : a ≤ℤ pos 0 → rest ≤ℤ pos 0
  not_above = division.not_above
