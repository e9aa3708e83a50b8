-- What is counted while a machine runs.
use Rattle.std.specs.Prelude.{◌≡◌, List, length}
use Rattle.dp_base.specs.declared.End.{End}
use Rattle.dp_tree.specs.declared.Program.{Program}
use Rattle.dp_tree.specs.Step.{Event}
use Rattle.dp_meaning.specs.MachineState.{MachineState, rest_of_run}
use Rattle.dp_profile.specs.Observed.{backward}
use Rattle.dp_observe.specs.declared.board.Board.{Board}
use Rattle.dp_observe.specs.steps.Tracking.{BoardFits}

-- the machine's steps up to the end were counted, behind any events that were by then
pub record Ran (end : End) (m : MachineState) (old new : Board) : Type 0 where
  pub end_is : (rest_of_run m).end ≡ end
  pub board : (p : Program) (past : List Event) → length past ≡ m.steps → BoardFits p past old → BoardFits p (backward past (rest_of_run m).trace) new
