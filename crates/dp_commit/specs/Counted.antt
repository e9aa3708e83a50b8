-- What was run by which plans, before anything was.
use Rattle.std.specs.Prelude.{ℕ, min, ◌-◌, ◌^◌}
use Rattle.dp_commit.specs.declared.chosen.Ran.{Ran}
use Rattle.dp_commit.specs.declared.chosen.Chosen.{Chosen}

-- a sum as it is held: it stays at the greatest number of 64 bits
abbrev pub held_count : ℕ → ℕ
held_count n = min n (2 ^ 64 - 1)

-- nothing was run
abbrev pub none_ran : Ran
none_ran = record { iterations = 0; epochs = 0; nanoseconds = 0 }

-- .. by no plan
abbrev pub none_chosen : Chosen
none_chosen = record { one_stage = none_ran; whole_loops = none_ran; own = none_ran; again = 0; switches = 0; nanoseconds = 0 }
