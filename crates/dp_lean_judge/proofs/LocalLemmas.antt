-- The cells of the body locals read 0 as the locals do.
use Rattle.std.proofs.Common.{◌≡◌, refl, ℕ, List, [], ◌∷◌, ℤ, pos, slice_set, inl, inr}
use Rattle.std.proofs.lemmas.Bool.{cases_Bool}
use Rattle.dp_tree.specs.declared.VarInfo.{VarInfo}
use Rattle.dp_tree.specs.Step.{clear_locals, is_local_of}
use Rattle.dp_lean_judge.specs.Locals.{clear_cells, local_cells}

pub clear_local_cells : (r : ℕ) (vars : List VarInfo) (cells : List ℤ) → clear_cells (local_cells r vars) cells ≡ clear_locals r vars cells
clear_local_cells r [] cells = refl
clear_local_cells r (x ∷ xs) cells = elim (cases_Bool (is_local_of r x.scope)) [
  | inl q ↦ rw q (clear_local_cells r xs (slice_set cells x.first.0 (pos 0)))
  | inr q ↦ rw q (clear_local_cells r xs cells)
]
