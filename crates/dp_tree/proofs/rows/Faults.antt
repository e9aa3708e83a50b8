-- Faults and the order of evaluation, over `int x; int a[2]; int main() { .. }` on one line.
use Rattle.std.proofs.Common.{◌≡◌, refl, ℕ, List, [], ◌∷◌, ℤ, pos, negsuc, length, replicate, Ok, Err}
use Rattle.dp_base.specs.declared.End.{End}
use Rattle.dp_base.specs.declared.End.TheVariants.{Done, Fault, Fuel}
use Rattle.dp_base.specs.declared.FaultKind.{FaultKind}
use Rattle.dp_base.specs.declared.FaultKind.TheVariants.{Overflow, Divide, Index}
use Rattle.dp_base.specs.declared.BinOp.TheVariants as op
use Rattle.dp_base.specs.declared.UnOp.TheVariants as sign
use Rattle.dp_tree.specs.declared.VarScope.TheVariants.{Global}
use Rattle.dp_tree.specs.declared.SiteKind.TheVariants.{Assign}
use Rattle.dp_tree.specs.declared.Expr.{Expr}
use Rattle.dp_tree.specs.declared.Expr.TheVariants as tree
use Rattle.dp_tree.specs.declared.Stmt.{Stmt}
use Rattle.dp_tree.specs.declared.Program.{Program}
use Rattle.dp_tree.specs.Eval.{eval}
use Rattle.dp_tree.specs.Trace.{Run, run_of, begin, prints}
use Rattle.dp_tree.specs.Iteration.{cells_after}
use Rattle.dp_tree.proofs.Build.{num, var, at, bin, set, set_at, say, scalar, array, site, program, tree_opened}

abbrev one_line : List Stmt → Program
one_line main = program (scalar 0 (pos 0) Global ∷ array 1 2 ∷ []) (replicate (length main) (site 1 Assign 0)) [] main

record Summary : Type 0 where
  prints : List ℤ
  cells : List ℤ
  steps : ℕ
  end : End

abbrev summary_of : Run → Summary
summary_of run = record { prints = prints run.trace; cells = cells_after run (length run.trace); steps = length run.trace; end = run.end }

abbrev summary : ℕ → List Stmt → Summary
summary fuel main = summary_of (run_of (one_line main) [] fuel (begin (one_line main)))

-- the evaluation faults on line 1 before anything happens
abbrev faulted : FaultKind → Summary
faulted kind = record { prints = []; cells = pos 0 ∷ pos 0 ∷ pos 0 ∷ []; steps = 0; end = Fault (record { kind = kind; line = 1 }) }

abbrev printed : List ℤ → ℕ → Summary
printed values steps = record { prints = values; cells = pos 0 ∷ pos 0 ∷ pos 0 ∷ []; steps = steps; end = Done }

abbrev minus : Expr → Expr
minus e = tree.Unary sign.Neg e

abbrev greatest : Expr
greatest = num 9223372036854775807

-- -9223372036854775807 - 1
abbrev least : Expr
least = bin op.Sub (minus greatest) (num 1)

-- x = 9223372036854775807 + 1;
sum_past_the_greatest : summary 100 (set 1 0 (bin op.Add greatest (num 1)) ∷ []) ≡ faulted Overflow
unfolding tree_opened
sum_past_the_greatest = refl

-- x = (-9223372036854775807 - 1) / -1;
least_by_minus_one : summary 100 (set 1 0 (bin op.Div least (minus (num 1))) ∷ []) ≡ faulted Overflow
unfolding tree_opened
least_by_minus_one = refl

-- x = (-9223372036854775807 - 1) % -1;
least_remainder_by_minus_one : summary 100 (set 1 0 (bin op.Rem least (minus (num 1))) ∷ []) ≡ faulted Overflow
unfolding tree_opened
least_remainder_by_minus_one = refl

-- x = -(-9223372036854775807 - 1);
minus_the_least : summary 100 (set 1 0 (minus least) ∷ []) ≡ faulted Overflow
unfolding tree_opened
minus_the_least = refl

-- x = 9223372036854775807 * 2;
product_past_the_greatest : summary 100 (set 1 0 (bin op.Mul greatest (num 2)) ∷ []) ≡ faulted Overflow
unfolding tree_opened
product_past_the_greatest = refl

-- x = 5 % 0;
remainder_by_zero : summary 100 (set 1 0 (bin op.Rem (num 5) (num 0)) ∷ []) ≡ faulted Divide
unfolding tree_opened
remainder_by_zero = refl

-- print(-7 / 2); print(-7 % 2);
division_toward_zero : summary 100 (say 1 (bin op.Div (minus (num 7)) (num 2)) ∷ say 2 (bin op.Rem (minus (num 7)) (num 2)) ∷ []) ≡ printed
    (negsuc 2 ∷ negsuc 0 ∷ []) 2
unfolding tree_opened
division_toward_zero = refl

-- a[5] = 1 / 0; the right side comes before the bound
right_side_before_bound : summary 100 (set_at 1 1 (num 5) (bin op.Div (num 1) (num 0)) ∷ []) ≡ faulted Divide
unfolding tree_opened
right_side_before_bound = refl

-- a[1 / 0] = 9223372036854775807 + 1; the index comes before the right side
index_before_right_side : summary 100 (set_at 1 1 (bin op.Div (num 1) (num 0)) (bin op.Add greatest (num 1)) ∷ []) ≡ faulted Divide
unfolding tree_opened
index_before_right_side = refl

-- a[5] = 1;
store_past_the_end : summary 100 (set_at 1 1 (num 5) (num 1) ∷ []) ≡ faulted Index
unfolding tree_opened
store_past_the_end = refl

-- a[2] = 1;
store_at_the_length : summary 100 (set_at 1 1 (num 2) (num 1) ∷ []) ≡ faulted Index
unfolding tree_opened
store_at_the_length = refl

-- a[-1] = 1;
store_below_zero : summary 100 (set_at 1 1 (minus (num 1)) (num 1) ∷ []) ≡ faulted Index
unfolding tree_opened
store_below_zero = refl

-- print(a[-1]);
load_below_zero : summary 100 (say 1 (at 1 (minus (num 1))) ∷ []) ≡ faulted Index
unfolding tree_opened
load_below_zero = refl

-- print(a[2]);
load_at_the_length : summary 100 (say 1 (at 1 (num 2)) ∷ []) ≡ faulted Index
unfolding tree_opened
load_at_the_length = refl

-- print(input[0]); without input
no_input : summary 100 (say 1 (tree.Input (num 0)) ∷ []) ≡ faulted Index
unfolding tree_opened
no_input = refl

-- print(0 && 1 / 0); print(7 || 1 / 0);
short_circuit : summary 100 (say 1 (tree.And (num 0) (bin op.Div (num 1) (num 0))) ∷ say 2 (tree.Or (num 7) (bin op.Div (num 1) (num 0))) ∷ []) ≡ printed
    (pos 0 ∷ pos 1 ∷ []) 2
unfolding tree_opened
short_circuit = refl

-- print(5 && -3); print(0 || 7); print(!7);
truth_values : summary 100 (say 1 (tree.And (num 5) (minus (num 3))) ∷ say 2 (tree.Or (num 0) (num 7)) ∷ say 3 (tree.Unary sign.Not (num 7)) ∷ []) ≡ printed
    (pos 1 ∷ pos 1 ∷ pos 0 ∷ []) 3
unfolding tree_opened
truth_values = refl

-- a fault with no step left is spent fuel
fault_without_fuel : (summary 0 (set 1 0 (bin op.Div (num 1) (num 0)) ∷ [])).end ≡ Fuel
unfolding tree_opened
fault_without_fuel = refl

-- a[x] + a[0] loads x, then the element, then the other one
loads_in_order : eval (one_line []) [] (pos 1 ∷ pos 5 ∷ pos 6 ∷ []) (bin op.Add (at 1 (var 0)) (at 1 (num 0)))
    ≡ Ok (record { value = pos 11; loads = record { cell = 0; value = pos 1 } ∷ record { cell = 2; value = pos 6 } ∷ record { cell = 1; value = pos 5 } ∷ [] })
unfolding tree_opened
loads_in_order = refl

-- x && a[0] with x = 0 loads x alone
left_out_without_loads : eval (one_line []) [] (pos 0 ∷ pos 5 ∷ pos 6 ∷ []) (tree.And (var 0) (at 1 (num 0))) ≡ Ok
    (record { value = pos 0; loads = record { cell = 0; value = pos 0 } ∷ [] })
unfolding tree_opened
left_out_without_loads = refl

-- the input's words and their number are no loads
input_without_loads : eval (one_line []) (pos 8 ∷ pos 9 ∷ []) (pos 1 ∷ []) (bin op.Add (tree.Input (num 1)) tree.InputLen) ≡ Ok
    (record { value = pos 11; loads = [] })
unfolding tree_opened
input_without_loads = refl

-- the left operand's fault comes first
left_fault_first : eval (one_line []) [] (pos 1 ∷ []) (bin op.Add (bin op.Div (num 1) (num 0)) (bin op.Add greatest (num 1))) ≡ Err Divide
unfolding tree_opened
left_fault_first = refl
