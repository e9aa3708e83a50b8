-- What a call does within a plain part.
use Rattle.std.specs.Prelude.{ℕ, ◌<◌, List, ℤ}
use Rattle.dp_meaning.specs.declared.ends.PartEnd.{PartEnd}
use Rattle.dp_meaning.specs.MachineState.{MachineState}
use Rattle.dp_meaning.specs.PartRun.{PartRun}

-- it runs the part for some turns
pub record PartCall (old new : MachineState) (before after : List ℤ) (end : PartEnd) : Type 0 where
  pub turns : ℕ
  pub some : 0 < turns
  pub call : PartRun turns old new before after end

-- some steps of the part, and why there are no more
pub record PartSteps (old new : MachineState) (end : PartEnd) : Type 0 where
  pub before : List ℤ
  pub after : List ℤ
  pub made : PartCall old new before after end
