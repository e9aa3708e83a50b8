-- The bound of a turn's steps, which is there for the definition's sake alone.
use Rattle.std.specs.Prelude.{◌≡◌, ℕ, ◌+◌, ◌<◌, List, ℤ, length, sum_by}
use Rattle.dp_base.specs.declared.Word.{Word}
use Rattle.dp_tree.specs.declared.Program.{Program}
use Rattle.dp_plan.specs.declared.Plan.{Plan}
use Rattle.dp_semantics.specs.StageRun.{turn_begin, stage_run}
unfoldable use Rattle.dp_semantics.specs.StageRun.{turn_from}

-- A turn with any more steps ends the same.
abbrev pub BoundNeverDecides : Program → Plan → Type 0
BoundNeverDecides p plan = (input : List ℤ) (s n : ℕ) (cells : List ℤ) (lists : List (List Word)) → plan.words + sum_by length lists < n →
    turn_from p plan input s n (turn_begin p plan s cells lists) ≡ stage_run p plan input s cells lists
