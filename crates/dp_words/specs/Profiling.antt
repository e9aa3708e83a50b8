-- The profile that values name.
use Rattle.std.specs.Prelude.{◌≡◌, ℕ, ◌≤◌, List, Option, Some, codes}
use Rattle.std.specs.Option.{option_map}
use Rattle.dp_base.specs.declared.limits.TheConstants.{FUEL}
use Rattle.dp_words.specs.declared.task.ProfileWords.{ProfileWords}
use Rattle.dp_words.specs.Values.{Values, fuel_in}

-- a profile: the names of its program and of its input, if it has one, and the fuel
pub record Profiling : Type 0 where
  pub program : List ℕ
  pub input : Option (List ℕ)
  pub fuel : ℕ

-- the values are those of this profile
pub record ShowsProfiling (value : Values) (profiling : Profiling) : Type 0 where
  pub program : value (codes "program") ≡ Some profiling.program
  pub input : value (codes "input") ≡ profiling.input
  pub fuel : profiling.fuel ≡ fuel_in value

-- the profile that the program's own record stands for
abbrev pub shown_profiling : ProfileWords → Profiling
shown_profiling words = record { program = words.program.now; input = option_map (λ name. name.now) words.input; fuel = words.fuel }

-- its fuel is within its limit
abbrev pub ProfilingWithin : Profiling → Type 0
ProfilingWithin profiling = profiling.fuel ≤ FUEL
