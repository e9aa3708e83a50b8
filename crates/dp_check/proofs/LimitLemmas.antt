-- Counts of the items of a program.
use Rattle.std.proofs.Common.{◌≡◌, ap, ◌∙◌, ℕ, ◌+◌, min, length, length-append, arith, List, ◌∷◌}
use Rattle.dp_base.specs.Counts.{reported_count}
use Rattle.dp_tree.specs.declared.raw.RawItem.{RawItem}
use Rattle.dp_check.specs.Tables.{globals, global_of}
use Rattle.dp_check.specs.Limits.{functions_in, function_count, cell_sum, global_cells}
use Rattle.dp_check.proofs.TableLemmas.{cell_sum-append}

pub reported_sum : (c a b : ℕ) → min (c + (a + b)) 1000000 ≡ min (min (c + min a 1000000) 1000000 + b) 1000000
reported_sum c a b = omega arith

pub cells_more : (c : ℕ) (x : RawItem) (rest : List RawItem) →
    min (c + global_cells (x ∷ rest)) 1000000 ≡ min (min (c + reported_count (cell_sum (global_of x))) 1000000 + global_cells rest) 1000000
cells_more c x rest = ap (λ n. min (c + n) 1000000) (cell_sum-append (global_of x) (globals rest)) ∙ reported_sum c (cell_sum (global_of x)) (global_cells rest)

pub functions_more : (c : ℕ) (x : RawItem) (rest : List RawItem) →
    min (c + function_count (x ∷ rest)) 1000000 ≡ min (min (c + functions_in x) 1000000 + function_count rest) 1000000
functions_more c x rest = by (functions_in x) (function_count rest)
  where
    by : (a b : ℕ) → min (c + (a + b)) 1000000 ≡ min (min (c + a) 1000000 + b) 1000000
    by a b = omega arith

pub globals_more : (c : ℕ) (x : RawItem) (rest : List RawItem) → c + length (globals (x ∷ rest)) ≡ (c + length (global_of x)) + length (globals rest)
globals_more c x rest = let e = length-append (global_of x) (globals rest) in omega arith
