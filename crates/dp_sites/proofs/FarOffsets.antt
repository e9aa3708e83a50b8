-- The place of an index is its offset from the one variable that it names; and the step of a right side is its stride.
use Rattle.std.proofs.Common.{◌≡◌, refl, sym, ap, ◌∙◌, ℕ, zero, suc, ◌==◌, Bool, true, false, if◌then◌else◌, ℤ, pos, negsuc, Option, Some, None}
use Rattle.std.specs.Prelude.{neg_ℤ}
use Rattle.dp_base.specs.declared.BinOp.{BinOp}
use Rattle.dp_base.specs.declared.BinOp.TheVariants as op
use Rattle.dp_base.specs.declared.VarId.{VarId}
use Rattle.std.specs.Option.{option_or}
use Rattle.dp_tree.specs.declared.Expr.{Expr, end_of-Expr, more_of-Expr}
use Rattle.dp_tree.specs.declared.Expr.TheVariants as expr
use Rattle.dp_sites.specs.declared.place.Place.{Place}
use Rattle.dp_sites.specs.declared.place.Step.{Step}
use Rattle.dp_plan.specs.Touch.{added, is_var, moved_by, moves, opposite, literal_in, offset, positive, when_so}
use Rattle.dp_sites.specs.Place.{added_place, added_step, offset_in, or_place, place_by, placed, scalar_in, stride_of_number, stride_from, step_in, stride_in}

-- the offset of a place by v
abbrev pub offset_by : ℕ → Option Place → Option ℤ
offset_by v None = None
offset_by v (Some q) = when_so (q.by.0 == v) (Some (offset_in q))

when_none : (b : Bool) → when_so b None ≡ None
when_none true = refl
when_none false = refl

abbrev scalar_tests : ℕ → Option VarId → Bool
scalar_tests v None = false
scalar_tests v (Some x) = x.0 == v

scalar_var : (v : ℕ) (e : Expr) → is_var v e ≡ (scalar_tests v (scalar_in e))
scalar_var v (expr.Scalar x) = refl
scalar_var v _ = refl

one_side : (v : ℕ) (x : Option VarId) (n : Option ℤ) → when_so (scalar_tests v x) n ≡ offset_by v (placed false x n)
one_side v None n = refl
one_side v (Some x) None = when_none (x.0 == v)
one_side v (Some x) (Some n) = refl

other_side : (v : ℕ) (x : Option VarId) (n : Option ℤ) → opposite (when_so (scalar_tests v x) n) ≡ offset_by v (placed true x n)
other_side v None n = refl
other_side v (Some x) None = ap opposite (when_none (x.0 == v))
other_side v (Some x) (Some n) = by (x.0 == v)
  where
    by : (b : Bool) → opposite (when_so b (Some n)) ≡ when_so b (Some (neg_ℤ n))
    by true = refl
    by false = refl

-- no expression is both a variable and a number
apart : (e : Expr) (x : VarId) → scalar_in e ≡ Some x → literal_in e ≡ None
apart (expr.Scalar y) x h = refl
apart (expr.Number n) x h = absurd (cc h)
apart (expr.Input' a b) x h = refl
apart expr.InputLen x h = refl
apart (expr.Element' y a b) x h = refl
apart (expr.Unary' o a b) x h = refl
apart (expr.Binary' o a b c d) x h = refl
apart (expr.And' a b c d) x h = refl
apart (expr.Or' a b c d) x h = refl

-- where the first is a variable the second side has nothing
first_only : (v : ℕ) (a b : Expr) → option_or (offset_by v (placed false (scalar_in a) (literal_in b)))
    (offset_by v (placed false (scalar_in b) (literal_in a))) ≡ offset_by v (or_place (placed false (scalar_in a) (literal_in b))
    (placed false (scalar_in b) (literal_in a)))
first_only v a b = by (scalar_in a) refl (literal_in b)
  where
    nothing : (x : Option VarId) (n : Option ℤ) → n ≡ None → placed false x n ≡ None
    nothing None n e = refl
    nothing (Some y) None e = refl
    nothing (Some y) (Some n) e = absurd (cc e)

    by : (x : Option VarId) → scalar_in a ≡ x → (n : Option ℤ) →
        option_or (offset_by v (placed false x n)) (offset_by v (placed false (scalar_in b) (literal_in a))) ≡ offset_by v
        (or_place (placed false x n) (placed false (scalar_in b) (literal_in a)))
    by None e n = refl
    by (Some x) e None = refl
    by (Some x) e (Some n) =
        ap (λ (q : Option Place). option_or (offset_by v (placed false (Some x) (Some n))) (offset_by v q)) (nothing (scalar_in b) (literal_in a) (apart a x e))
        ∙ same (x.0 == v)
      where
        same : (t : Bool) → option_or (when_so t (Some n)) None ≡ when_so t (Some n)
        same true = refl
        same false = refl

by_op : (v : ℕ) (o : BinOp) (a b : Expr) → added v o a b ≡ offset_by v (added_place o a b)
by_op v op.Add a b =
    ap (λ (t : Bool). option_or (when_so t (literal_in b)) (when_so (is_var v b) (literal_in a))) (scalar_var v a)
    ∙ ap (λ (o : Option ℤ). option_or o (when_so (is_var v b) (literal_in a))) (one_side v (scalar_in a) (literal_in b))
    ∙ ap (λ (t : Bool). option_or (offset_by v (placed false (scalar_in a) (literal_in b))) (when_so t (literal_in a))) (scalar_var v b)
    ∙ ap (option_or (offset_by v (placed false (scalar_in a) (literal_in b)))) (one_side v (scalar_in b) (literal_in a))
    ∙ first_only v a b
by_op v op.Sub a b = ap (λ (t : Bool). opposite (when_so t (literal_in b))) (scalar_var v a) ∙ other_side v (scalar_in a) (literal_in b)
by_op v _ a b = refl

pub offset_is : (v : ℕ) (e : Expr) → offset v e ≡ offset_by v (place_by e)
offset_is v (expr.Scalar x) = refl
offset_is v (expr.Binary' o _ (more_of-Expr a end_of-Expr) _ (more_of-Expr b end_of-Expr)) = by_op v o a b
offset_is v _ = refl

-- ---- steps

abbrev pub stride_by : Option Step → Option ℤ
stride_by None = None
stride_by (Some s) = Some (stride_in s)

up_by : (n : Option ℤ) → positive n ≡ stride_by (stride_of_number false n)
up_by (Some (pos (suc n))) = refl
up_by (Some (pos zero)) = refl
up_by (Some (negsuc n)) = refl
up_by None = refl

down_by : (n : Option ℤ) → opposite (positive n) ≡ stride_by (stride_of_number true n)
down_by (Some (pos (suc n))) = refl
down_by (Some (pos zero)) = refl
down_by (Some (negsuc n)) = refl
down_by None = refl

if_step : (b : Bool) (s : Option Step) → stride_by (if b then s else None) ≡ when_so b (stride_by s)
if_step true s = refl
if_step false s = refl

up_from : (v : VarId) (x : Option VarId) (n : Option ℤ) → when_so (scalar_tests v.0 x) (positive n) ≡ stride_by (stride_from v false x n)
up_from v None n = refl
up_from v (Some x) n = ap (when_so (x.0 == v.0)) (up_by n) ∙ sym (if_step (x.0 == v.0) (stride_of_number false n))

negated_when : (b : Bool) (n : Option ℤ) → opposite (when_so b n) ≡ when_so b (opposite n)
negated_when true n = refl
negated_when false n = refl

down_from : (v : VarId) (x : Option VarId) (n : Option ℤ) → opposite (when_so (scalar_tests v.0 x) (positive n)) ≡ stride_by (stride_from v true x n)
down_from v None n = refl
down_from v (Some x) n = negated_when (x.0 == v.0) (positive n) ∙ ap (when_so (x.0 == v.0)) (down_by n) ∙ sym (if_step (x.0 == v.0) (stride_of_number true n))

step_op : (v : VarId) (o : BinOp) (a b : Expr) → moved_by v.0 o a b ≡ stride_by (added_step v o a b)
step_op v op.Add a b = ap (λ (t : Bool). when_so t (positive (literal_in b))) (scalar_var v.0 a) ∙ up_from v (scalar_in a) (literal_in b)
step_op v op.Sub a b = ap (λ (t : Bool). opposite (when_so t (positive (literal_in b)))) (scalar_var v.0 a) ∙ down_from v (scalar_in a) (literal_in b)
step_op v _ a b = refl

pub stride_is : (v : VarId) (e : Expr) → moves v.0 e ≡ stride_by (step_in v e)
stride_is v (expr.Binary' o _ (more_of-Expr a end_of-Expr) _ (more_of-Expr b end_of-Expr)) = step_op v o a b
stride_is v _ = refl
