-- An iteration that is executed again.
use Rattle.std.specs.Prelude.{◌≡◌, ℕ, ◌<◌, List, [], ℤ, Option, Some, None}
use Rattle.dp_meaning.specs.declared.ends.IterEnd.{IterEnd}
use Rattle.dp_meaning.specs.declared.ends.IterEnd.TheVariants as iter_end
use Rattle.dp_meaning.specs.IterationRun.{IterationRun}
use Rattle.dp_commit.specs.CommittedState.{CommittedState, count_after}
use Rattle.dp_epoch.specs.declared.ends.RegionEnd.{RegionEnd}
use Rattle.dp_epoch.specs.declared.ends.RegionEnd.TheVariants.{Closed, Fault, Fuel}

-- Some steps of the current iteration, what they printed, and why there are no more. It counts where it ended.
pub record Remade (old new : CommittedState) (printed : List ℤ) (end : IterEnd) : Type 0 where
  pub turns : ℕ
  pub some : 0 < turns
  pub call : IterationRun old.region turns old.machine new.machine [] printed end
  pub rest : new ≡ record old { machine = new.machine; count = count_after old.count end }

-- some steps of the current iteration print this, or none were made
pub data MayPrint (old : CommittedState) (printed : List ℤ) : Type 0 where
  nothing : printed ≡ [] → MayPrint old printed
  some : (new : CommittedState) (end : IterEnd) → Remade old new printed end → MayPrint old printed

-- the iteration's end: the next one comes, or the region or the run ends
abbrev pub iteration_end : Option RegionEnd → IterEnd
iteration_end None = iter_end.Next
iteration_end (Some Closed) = iter_end.Closed
iteration_end (Some (Fault fault)) = iter_end.Fault fault
iteration_end (Some Fuel) = iter_end.Fuel
