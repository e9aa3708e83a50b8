-- The iteration that a machine would run next, read off its run.
use Rattle.std.specs.Prelude.{◌≡◌, ℕ, Bool, true, false, List, ℤ, length}
use Rattle.dp_base.specs.declared.StoreOf.{StoreOf}
use Rattle.dp_tree.specs.declared.VarInfo.{VarInfo}
use Rattle.dp_tree.specs.Iteration.{iteration, has_ended, is_closing}
use Rattle.dp_tree.specs.Step.{clear_locals}
use Rattle.dp_semantics.specs.Told.{stores_of, with_stores}
use Rattle.dp_meaning.specs.declared.ends.IterEnd.{IterEnd}
use Rattle.dp_meaning.specs.declared.ends.IterEnd.TheVariants.{Next, Closed}
use Rattle.dp_meaning.specs.MachineState.{MachineState, rest_of_run}

-- the memory behind these stores where the iteration that made them has ended: the region's body locals read 0 there
abbrev pub memory_behind_stores : ℕ → List VarInfo → List StoreOf → List ℤ → List ℤ
memory_behind_stores region vars made cells = clear_locals region vars (with_stores made cells)

-- The next iteration of the region ends within the fuel, in the memory to which these stores lead, after so many steps, and
-- `closing` says whether it leaves the region.
pub record NextIteration (region : ℕ) (m : MachineState) (made : List StoreOf) (steps : ℕ) (closing : Bool) : Type 0 where
  pub ended : has_ended (rest_of_run m) region 0 ≡ true
  pub stores_lead : (cells : List ℤ) → memory_behind_stores region m.program.vars made cells ≡ memory_behind_stores region m.program.vars
      (stores_of (iteration (rest_of_run m) region 0)) cells
  pub steps_are : steps ≡ length (iteration (rest_of_run m) region 0)
  pub closing_is : closing ≡ is_closing (rest_of_run m) region 0

-- how `iterate` answers at the end of an iteration
abbrev pub end_of_iteration : Bool → IterEnd
end_of_iteration true = Closed
end_of_iteration false = Next
