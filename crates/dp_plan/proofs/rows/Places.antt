-- Which indices have a place, which statements move a variable, and which places lie a number of strides apart, at the edges of each.
use Rattle.std.proofs.Common.{◌≡◌, refl, ℕ, true, false, List, [], ◌∷◌, pos, negsuc, Some, None}
use Rattle.dp_base.specs.declared.BinOp.TheVariants as op
use Rattle.dp_tree.specs.declared.VarScope.TheVariants.{Global, Outer, Body}
use Rattle.dp_tree.specs.declared.Stmt.{Stmt, out-Stmt}
use Rattle.dp_tree.specs.declared.Stmt.TheVariants as tree
use Rattle.dp_tree.specs.declared.Program.{Program}
use Rattle.dp_tree.proofs.Build.{array, at, bin, loop, num, one_region, program, region, scalar, set, set_at, tree_opened, var, when}
use Rattle.dp_plan.specs.Touch.{offset, stride_of}
use Rattle.dp_plan.specs.IsFar.{is_far, is_far_within, is_strides}

-- v
itself : offset 2 (var 2) ≡ Some (pos 0)
unfolding tree_opened
itself = refl

-- w
another : offset 2 (var 3) ≡ None
unfolding tree_opened
another = refl

-- v + 5
more : offset 2 (bin op.Add (var 2) (num 5)) ≡ Some (pos 5)
unfolding tree_opened
more = refl

-- 2 + v
number_first : offset 2 (bin op.Add (num 2) (var 2)) ≡ Some (pos 2)
unfolding tree_opened
number_first = refl

-- v - 5
less : offset 2 (bin op.Sub (var 2) (num 5)) ≡ Some (negsuc 4)
unfolding tree_opened
less = refl

-- 5 - v
turned : offset 2 (bin op.Sub (num 5) (var 2)) ≡ None
unfolding tree_opened
turned = refl

-- v * 1
times_one : offset 2 (bin op.Mul (var 2) (num 1)) ≡ None
unfolding tree_opened
times_one = refl

-- v + w
two_variables : offset 2 (bin op.Add (var 2) (var 3)) ≡ None
unfolding tree_opened
two_variables = refl

-- v + v
twice : offset 2 (bin op.Add (var 2) (var 2)) ≡ None
unfolding tree_opened
twice = refl

-- v = v + 3, v = v - 3, v = 3 + v, v = v + 0, v = w + 3, w = v + 3
up : stride_of 2 (out-Stmt (set 4 2 (bin op.Add (var 2) (num 3)))) ≡ Some (pos 3)
unfolding tree_opened
up = refl

down : stride_of 2 (out-Stmt (set 4 2 (bin op.Sub (var 2) (num 3)))) ≡ Some (negsuc 2)
unfolding tree_opened
down = refl

step_first : stride_of 2 (out-Stmt (set 4 2 (bin op.Add (num 3) (var 2)))) ≡ None
unfolding tree_opened
step_first = refl

step_of_none : stride_of 2 (out-Stmt (set 4 2 (bin op.Add (var 2) (num 0)))) ≡ None
unfolding tree_opened
step_of_none = refl

from_another : stride_of 2 (out-Stmt (set 4 2 (bin op.Add (var 3) (num 3)))) ≡ None
unfolding tree_opened
from_another = refl

to_another : stride_of 2 (out-Stmt (set 4 3 (bin op.Add (var 2) (num 3)))) ≡ None
unfolding tree_opened
to_another = refl

-- numbers of strides, at least one
no_stride : is_strides (pos 2) (pos 0) ≡ false
no_stride = refl

one_stride : is_strides (pos 2) (pos 2) ≡ true
one_stride = refl

between_strides : is_strides (pos 2) (pos 3) ≡ false
between_strides = refl

two_strides : is_strides (pos 2) (pos 4) ≡ true
two_strides = refl

against_strides : is_strides (pos 2) (negsuc 3) ≡ false
against_strides = refl

strides_down : is_strides (negsuc 1) (negsuc 3) ≡ true
strides_down = refl

strides_down_against : is_strides (negsuc 1) (pos 4) ≡ false
strides_down_against = refl

-- places near the ends of the numbers
great_strides : is_strides (pos 9223372036854775807) (pos 18446744073709551614) ≡ true
great_strides = refl

great_between : is_strides (pos 9223372036854775807) (pos 18446744073709551615) ≡ false
great_between = refl

-- while (i < 4) { BODY }, with an array a, scalars s, i and w, and a body local b
abbrev with_body : List Stmt → Program
with_body body = program (array 0 9 ∷ scalar 9 (pos 0) Global ∷ scalar 10 (pos 0) Outer ∷ scalar 11 (pos 0) Outer ∷ scalar 12 (pos 0) (Body 1) ∷ []) []
    (one_region 6 2 6) (region 1 2 (bin op.Lt (var 2) (num 4)) body ∷ [])

abbrev load_of : ℕ → ℕ → Stmt
load_of site v = set site 1 (at 0 (var v))

abbrev store_at : ℕ → ℕ → Stmt
store_at site v = set_at site 0 (var v) (num 7)

abbrev step : ℕ → ℕ → Stmt
step site v = set site v (bin op.Add (var v) (num 1))

-- the store behind the step is one iteration ahead
store_behind : is_far (with_body (load_of 3 2 ∷ step 4 2 ∷ store_at 5 2 ∷ [])) 1 5 3 ≡ false
unfolding tree_opened
store_behind = refl

store_before : is_far (with_body (load_of 3 2 ∷ store_at 4 2 ∷ step 5 2 ∷ [])) 1 4 3 ≡ true
unfolding tree_opened
store_before = refl

-- both behind the step
both_behind : is_far (with_body (step 3 2 ∷ load_of 4 2 ∷ store_at 5 2 ∷ [])) 1 5 4 ≡ true
unfolding tree_opened
both_behind = refl

-- the load behind the step reads what an earlier iteration stored only where the stride is turned round
down_before : is_far (with_body (load_of 3 2 ∷ set 4 2 (bin op.Sub (var 2) (num 1)) ∷ store_at 5 2 ∷ [])) 1 5 3 ≡ false
unfolding tree_opened
down_before = refl

down_behind : is_far (with_body (store_at 3 2 ∷ set 4 2 (bin op.Sub (var 2) (num 1)) ∷ load_of 5 2 ∷ [])) 1 3 5 ≡ true
unfolding tree_opened
down_behind = refl

-- places that differ by a number of strides, and by none
by_two : is_far (with_body (load_of 3 2 ∷ set_at 4 0 (bin op.Add (var 2) (num 2)) (num 7) ∷ set 5 2 (bin op.Add (var 2) (num 2)) ∷ [])) 1 4 3 ≡ false
unfolding tree_opened
by_two = refl

by_three : is_far (with_body (load_of 3 2 ∷ set_at 4 0 (bin op.Add (var 2) (num 3)) (num 7) ∷ set 5 2 (bin op.Add (var 2) (num 2)) ∷ [])) 1 4 3 ≡ true
unfolding tree_opened
by_three = refl

-- one load with a place and one without
unplaced : is_far (with_body (set 3 1 (bin op.Add (at 0 (var 2)) (at 0 (var 3))) ∷ store_at 4 2 ∷ step 5 2 ∷ [])) 1 4 3 ≡ false
unfolding tree_opened
unplaced = refl

-- a variable that two sites store
two_steps : is_far (with_body (load_of 3 2 ∷ store_at 4 2 ∷ step 5 2 ∷ step 6 2 ∷ [])) 1 4 3 ≡ false
unfolding tree_opened
two_steps = refl

-- a step in an `if`, and one in an inner `while`
step_in_if : is_far (with_body (load_of 3 2 ∷ store_at 4 2 ∷ when 5 (num 1) (step 6 2 ∷ []) ∷ [])) 1 4 3 ≡ false
unfolding tree_opened
step_in_if = refl

step_in_while : is_far (with_body (load_of 3 2 ∷ store_at 4 2 ∷ loop 5 (num 1) (step 6 2 ∷ []) ∷ [])) 1 4 3 ≡ false
unfolding tree_opened
step_in_while = refl

-- a body local
local_step : is_far (with_body (load_of 3 4 ∷ store_at 4 4 ∷ step 5 4 ∷ [])) 1 4 3 ≡ false
unfolding tree_opened
local_step = refl

-- an array's element isn't a scalar
array_step : is_far (with_body (set 3 1 (at 0 (var 0)) ∷ set_at 4 0 (var 0) (num 7) ∷ step 5 0 ∷ [])) 1 4 3 ≡ false
unfolding tree_opened
array_step = refl

-- a break before the step leaves the region, so the step is still at the top
break_before : is_far (with_body (load_of 3 2 ∷ store_at 4 2 ∷ tree.Break (record { 0 = 5 }) (num 0) ∷ step 6 2 ∷ [])) 1 4 3 ≡ true
unfolding tree_opened
break_before = refl

-- within one iteration the places have to differ
same_place : is_far_within (with_body (load_of 3 2 ∷ store_at 4 2 ∷ step 5 2 ∷ [])) 1 4 3 ≡ false
unfolding tree_opened
same_place = refl

other_place : is_far_within (with_body (load_of 3 2 ∷ step 4 2 ∷ store_at 5 2 ∷ [])) 1 5 3 ≡ true
unfolding tree_opened
other_place = refl
