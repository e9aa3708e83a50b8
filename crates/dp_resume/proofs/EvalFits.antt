-- What is evaluated from numbers of 64 bits is a number of 64 bits.
use Rattle.std.proofs.Common.{◌≡◌, refl, ℕ, zero, suc, ◌+◌, ◌^◌, ◌<◌, ◌≤◌, Bool, true, false, not, if◌then◌else◌, List, ℤ, pos, negsuc, neg_ℤ, ◌+ℤ◌, ◌-ℤ◌, ◌*ℤ◌}
use Rattle.std.proofs.Common.{int_div, int_rem, int_lt, int_le, unsigned_abs, length, get_or, nat_lt, Result, Ok, Err, arith, lt-ltb, ltb-true}
use Rattle.std.specs.Ordering.{int_eq}
use Rattle.std.proofs.lemmas.Bool.{and_parts}
use Rattle.std.proofs.lemmas.Int.{rem_below}
use Rattle.dp_base.specs.declared.FaultKind.{FaultKind}
use Rattle.dp_base.specs.declared.FaultKind.TheVariants.{Divide, Overflow, Index}
use Rattle.dp_base.specs.declared.BinOp.{BinOp}
use Rattle.dp_base.specs.declared.BinOp.TheVariants.{Mul, Div, Rem, Add, Sub, Lt, Le, Gt, Ge, Eq, Ne}
use Rattle.dp_base.specs.declared.UnOp.{UnOp}
use Rattle.dp_base.specs.declared.UnOp.TheVariants.{Neg, Not}
unfoldable use Rattle.dp_base.specs.Arithmetic.{is_zero, number_of, binary_result, unary_result}
use Rattle.dp_base.specs.Arithmetic.{fits, unless_overflow, divided}
use Rattle.dp_tree.specs.declared.Expr.{Expr, more_of-Expr, end_of-Expr}
use Rattle.dp_tree.specs.declared.Expr.TheVariants as tree
use Rattle.dp_tree.specs.declared.Program.{Program}
use Rattle.dp_tree.specs.Eval.{Evaluated, after_loads, and_then, cell_count, first_cell, just, load, place, without_loads}
unfoldable use Rattle.dp_tree.specs.Eval.{eval}
use Rattle.dp_calls.specs.AtHome.{expr_fits}

-- ---- operations

-- a result without a fault fits
unfoldable pub Fit : Result ℤ FaultKind → Type 0
Fit (Ok z) = fits z ≡ true
Fit (Err fault) = Unit {0}

number_fits : (b : Bool) → fits (number_of b) ≡ true
unfolding number_of
number_fits true = refl
number_fits false = refl

checked_fits : (z : ℤ) → Fit (unless_overflow z z)
unfolding Fit
checked_fits z = by (fits z) refl
  where
    by : (b : Bool) → fits z ≡ b → Fit (if b then Ok z else Err Overflow)
    by true e = e
    by false e = tt

-- what is smaller than a number that fits, whatever the signs
small_fits : (z : ℤ) → unsigned_abs z < 2 ^ 63 → fits z ≡ true
small_fits (pos n) small = lt-ltb n (2 ^ 63) small
small_fits (negsuc n) small = let less : n < 2 ^ 63 = omega (arith, small) in lt-ltb n (2 ^ 63) less

fits_small : (z : ℤ) → fits z ≡ true → unsigned_abs z ≤ 2 ^ 63
fits_small (pos n) e = let less = ltb-true n (2 ^ 63) e in omega (arith, less)
fits_small (negsuc n) e = let less = ltb-true n (2 ^ 63) e in omega (arith, less)

some_size : (z : ℤ) → is_zero z ≡ false → 0 < unsigned_abs z
unfolding is_zero
some_size (pos zero) e = absurd (cc e)
some_size (pos (suc n)) e = omega arith
some_size (negsuc n) e = omega arith

rest_fits : (a b : ℤ) → is_zero b ≡ false → fits b ≡ true → fits (int_rem a b) ≡ true
rest_fits a b some e = let below = rem_below a b (some_size b some) in let high = fits_small b e in small_fits (int_rem a b) (omega (arith, below, high))

divided_fits : (b quotient z : ℤ) → (is_zero b ≡ false → fits quotient ≡ true → fits z ≡ true) → Fit (divided b quotient z)
unfolding Fit
divided_fits b quotient z h = by (is_zero b) (fits quotient) refl refl
  where
    by : (zero_is wide : Bool) → is_zero b ≡ zero_is → fits quotient ≡ wide → Fit (if zero_is then Err Divide else (if wide then Ok z else Err Overflow))
    by true wide e f = tt
    by false true e f = h e f
    by false false e f = tt

fit_number : (b : Bool) → Fit (Ok (number_of b))
unfolding Fit
fit_number b = number_fits b

binary_fits : (op : BinOp) (a b : ℤ) → fits b ≡ true → Fit (binary_result op a b)
unfolding binary_result
binary_fits Mul a b e = checked_fits (a *ℤ b)
binary_fits Div a b e = divided_fits b (int_div a b) (int_div a b) (λ some wide. wide)
binary_fits Rem a b e = divided_fits b (int_div a b) (int_rem a b) (λ some wide. rest_fits a b some e)
binary_fits Add a b e = checked_fits (a +ℤ b)
binary_fits Sub a b e = checked_fits (a -ℤ b)
binary_fits Lt a b e = fit_number (int_lt a b)
binary_fits Le a b e = fit_number (int_le a b)
binary_fits Gt a b e = fit_number (int_lt b a)
binary_fits Ge a b e = fit_number (int_le b a)
binary_fits Eq a b e = fit_number (int_eq a b)
binary_fits Ne a b e = fit_number (not (int_eq a b))

unary_fits : (op : UnOp) (a : ℤ) → Fit (unary_result op a)
unfolding unary_result
unary_fits Neg a = checked_fits (neg_ℤ a)
unary_fits Not a = fit_number (is_zero a)

-- ---- expressions

-- what is evaluated without a fault is so
unfoldable pub Gives : {X : Type 0} → (X → Type 0) → Evaluated X → Type 0
Gives P (Ok v) = P v.value
Gives P (Err fault) = Unit {0}

pub gives_just : {X : Type 0} (P : X → Type 0) (x : X) → P x → Gives P (just x)
unfolding Gives
gives_just P x h = h

pub gives_then : {X Y : Type 0} (P : X → Type 0) (Q : Y → Type 0) (u : Evaluated X) (f : X → Evaluated Y) → Gives P u → ((x : X) → P x → Gives Q (f x)) →
    Gives Q (and_then u f)
unfolding Gives
gives_then {Y = Y} P Q (Ok x) f first next = by (f x.value) (next x.value first)
  where
    by : (r : Evaluated Y) → Gives Q r → Gives Q (after_loads x.loads r)
    by (Ok y) h = h
    by (Err fault) h = tt
gives_then P Q (Err fault) f first next = tt

gives_if : {X : Type 0} (P : X → Type 0) (b : Bool) (u f : Evaluated X) → Gives P u → Gives P f → Gives P (if b then u else f)
gives_if P true u f h k = h
gives_if P false u f h k = k

-- the number fits 64 bits
abbrev pub IsWide : ℤ → Type 0
IsWide z = fits z ≡ true

-- so does each number of the list
abbrev pub AllWide : List ℤ → Type 0
AllWide cells = (c : ℕ) → fits (get_or cells c (pos 0)) ≡ true

gives_result : (r : Result ℤ FaultKind) → Fit r → Gives IsWide (without_loads r)
unfolding Fit Gives
gives_result (Ok z) h = h
gives_result (Err fault) h = tt

-- any value will do
abbrev Any : {X : Type 0} → X → Type 0
Any x = Unit {0}

gives_place : (i : ℤ) (n : ℕ) → Gives Any (place i n)
unfolding Gives
gives_place (pos i) n = by (nat_lt i n)
  where
    by : (b : Bool) → Gives {X = ℕ} Any (if b then just i else Err Index)
    by true = tt
    by false = tt
gives_place (negsuc i) n = tt

gives_load : (cells : List ℤ) (c : ℕ) → AllWide cells → Gives IsWide (load cells c)
unfolding Gives
gives_load cells c wide = wide c

module _ (p : Program) (input : List ℤ) (few : length input < 2 ^ 63) (read : AllWide input) (cells : List ℤ) (wide : AllWide cells) where
  pub eval_fits : (e : Expr) → expr_fits e ≡ true → Gives IsWide (eval p input cells e)
  unfolding eval
  eval_fits (tree.Number n) h = gives_just IsWide n h
  eval_fits (tree.Input' _ (more_of-Expr e end_of-Expr)) h =
      gives_then IsWide IsWide _ _ (eval_fits e h) (λ i w. gives_then Any IsWide _ _ (gives_place i (length input)) (λ k u. gives_just IsWide _ (read k)))
  eval_fits tree.InputLen h = gives_just IsWide _ (lt-ltb (length input) (2 ^ 63) few)
  eval_fits (tree.Scalar x) h = gives_load cells (first_cell p x) wide
  eval_fits (tree.Element' x _ (more_of-Expr e end_of-Expr)) h =
      gives_then IsWide IsWide _ _ (eval_fits e h) (λ i w. gives_then Any IsWide _ _ (gives_place i (cell_count p x))
      (λ k u. gives_load cells (first_cell p x + k) wide))
  eval_fits (tree.Unary' op _ (more_of-Expr e end_of-Expr)) h =
      gives_then IsWide IsWide _ _ (eval_fits e h) (λ x w. gives_result (unary_result op x) (unary_fits op x))
  eval_fits (tree.Binary' op _ (more_of-Expr a end_of-Expr) _ (more_of-Expr b end_of-Expr)) h =
      let both = and_parts (expr_fits a) (expr_fits b) h in
      gives_then IsWide IsWide _ _ (eval_fits a both.0) (λ x w. gives_then IsWide IsWide _ _ (eval_fits b both.1)
      (λ y v. gives_result (binary_result op x y) (binary_fits op x y v)))
  eval_fits (tree.And' _ (more_of-Expr a end_of-Expr) _ (more_of-Expr b end_of-Expr)) h =
      let both = and_parts (expr_fits a) (expr_fits b) h in
      gives_then IsWide IsWide _ _ (eval_fits a both.0) (λ x w. gives_if IsWide (is_zero x) _ _ (gives_just IsWide (pos 0) refl)
      (gives_then IsWide IsWide _ _ (eval_fits b both.1) (λ y v. gives_just IsWide _ (number_fits (not (is_zero y))))))
  eval_fits (tree.Or' _ (more_of-Expr a end_of-Expr) _ (more_of-Expr b end_of-Expr)) h =
      let both = and_parts (expr_fits a) (expr_fits b) h in
      gives_then IsWide IsWide _ _ (eval_fits a both.0)
      (λ x w. gives_if IsWide (is_zero x) _ _ (gives_then IsWide IsWide _ _ (eval_fits b both.1) (λ y v. gives_just IsWide _ (number_fits (not (is_zero y)))))
      (gives_just IsWide (pos 1) refl))

-- any value will do
pub gives_any : {X : Type 0} (u : Evaluated X) → Gives (λ (x : X). Unit {0}) u
unfolding Gives
gives_any (Ok v) = tt
gives_any (Err fault) = tt
