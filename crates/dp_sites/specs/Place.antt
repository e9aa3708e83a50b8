-- Where an index lies by a variable, and by how much a statement moves one, as numbers that the code keeps.
use Rattle.std.specs.Prelude.{ℕ, suc, ◌==◌, if◌then◌else◌, Bool, true, false, ℤ, pos, negsuc, neg_ℤ, ◌+ℤ◌, Option, Some, None}
use Rattle.dp_base.specs.declared.BinOp.{BinOp}
use Rattle.dp_base.specs.declared.BinOp.TheVariants.{Add, Sub}
use Rattle.dp_base.specs.declared.VarId.{VarId}
use Rattle.dp_tree.specs.declared.Expr.{Expr, end_of-Expr, more_of-Expr}
use Rattle.dp_tree.specs.declared.Expr.TheVariants.{Scalar, Binary'}
use Rattle.dp_plan.specs.Touch.{literal_in}
use Rattle.dp_plan.specs.IsFar.{apart_by, by_place}
pub use Rattle.dp_sites.specs.declared.place.Place.{Place}
pub use Rattle.dp_sites.specs.declared.place.Step.{Step}
pub use Rattle.dp_sites.specs.declared.place.Gap.{Gap}
use Rattle.dp_sites.specs.declared.place.Gap.TheVariants as gap

-- the number, or its negative
abbrev pub signed : Bool → ℤ → ℤ
signed true n = neg_ℤ n
signed false n = n

-- the stride that a step has: so many and one more, up or down
abbrev pub stride_value : Bool → ℕ → ℤ
stride_value true n = negsuc n
stride_value false n = pos (suc n)

abbrev pub stride_in : Step → ℤ
stride_in s = stride_value s.back s.beyond

-- how far the place lies from its variable, before the variable's step
abbrev pub offset_in : Place → ℤ
offset_in q = signed q.less q.number

-- .. and behind the step, if it is
abbrev pub place_at : Place → Bool → Step → ℤ
place_at q true s = offset_in q +ℤ stride_in s
place_at q false s = offset_in q

-- the variable that the expression is
abbrev pub scalar_in : Expr → Option VarId
scalar_in (Scalar x) = Some x
scalar_in _ = None

abbrev pub placed : Bool → Option VarId → Option ℤ → Option Place
placed less None n = None
placed less (Some x) None = None
placed less (Some x) (Some n) = Some (record { by = x; less = less; number = n })

abbrev pub or_place : Option Place → Option Place → Option Place
or_place (Some q) other = Some q
or_place None other = other

abbrev pub added_place : BinOp → Expr → Expr → Option Place
added_place Add a b = or_place (placed false (scalar_in a) (literal_in b)) (placed false (scalar_in b) (literal_in a))
added_place Sub a b = placed true (scalar_in a) (literal_in b)
added_place _ a b = None

-- the place of an index, by the one variable that it names
abbrev pub place_by : Expr → Option Place
place_by (Scalar x) = Some (record { by = x; less = false; number = pos 0 })
place_by (Binary' op _ (more_of-Expr a end_of-Expr) _ (more_of-Expr b end_of-Expr)) = added_place op a b
place_by _ = None

-- the step of a number of at least 1
abbrev pub stride_of_number : Bool → Option ℤ → Option Step
stride_of_number back (Some (pos (suc n))) = Some (record { back = back; beyond = n })
stride_of_number back _ = None

abbrev pub stride_from : VarId → Bool → Option VarId → Option ℤ → Option Step
stride_from v back None n = None
stride_from v back (Some x) n = if x.0 == v.0 then stride_of_number back n else None

abbrev pub added_step : VarId → BinOp → Expr → Expr → Option Step
added_step v Add a b = stride_from v false (scalar_in a) (literal_in b)
added_step v Sub a b = stride_from v true (scalar_in a) (literal_in b)
added_step v _ a b = None

-- the step by which the right side moves v
abbrev pub step_in : VarId → Expr → Option Step
step_in v (Binary' op _ (more_of-Expr a end_of-Expr) _ (more_of-Expr b end_of-Expr)) = added_step v op a b
step_in v _ = None

-- what the code asks of an expression
unfoldable pub scalar_at : Expr → Option VarId
scalar_at e = scalar_in e

unfoldable pub literal_at : Expr → Option ℤ
literal_at e = literal_in e

unfoldable pub index_place : Expr → Option Place
index_place e = place_by e

unfoldable pub stride_at : VarId → Expr → Option Step
stride_at v e = step_in v e

-- the two tests of places
abbrev pub test_of : Gap → ℤ → ℤ → ℤ → Bool
test_of gap.Strides = apart_by
test_of gap.Whole = by_place
