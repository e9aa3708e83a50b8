-- A clean iteration that was committed, and the tally of such ones.
use Rattle.std.specs.Prelude.{ℕ, ◌+◌, ◌-◌, ◌^◌, ◌<◌}
pub use Rattle.dp_commit.specs.CommittedState.{Applied}
use Rattle.dp_commit.specs.CommittedState.{CommittedState}

-- the fuel that the committed memory leaves
abbrev pub steps_left : CommittedState → ℕ
steps_left c = c.machine.fuel - c.machine.steps

-- a verdict for each step that is left can be counted
abbrev pub HasRoomForVerdicts : ℕ → CommittedState → Type 0
HasRoomForVerdicts tally c = tally + steps_left c < 2 ^ 64
