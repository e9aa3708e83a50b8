-- What is asked for reads a program alone, or a program and its least plans.
use Rattle.std.specs.Prelude.{◌≡◌, ℕ, List, Some, None}
use Rattle.dp_words.specs.Planning.{Planning}
use Rattle.dp_words.specs.Run.{Least}
use Rattle.dp_words.specs.Words.{Asked}
use Rattle.dp_load.specs.Order.{last_in, list_in}
use Rattle.dp_load.specs.Roles.{input_in, plans_asked, program_in}

-- The program under this name is read, and nothing behind it.
pub record ReadsProgramAlone (asked : Asked) (name : List ℕ) : Type 0 where
  pub program : program_in asked ≡ Some name
  pub input : input_in asked ≡ None
  pub unlisted : list_in asked ≡ None
  pub plans : plans_asked asked ≡ None
  pub alone : last_in asked ≡ None

-- The program is read and then the profile, if one is named, and nothing behind them.
pub record ReadsLeastPlans (asked : Asked) (planning : Planning) : Type 0 where
  pub program : program_in asked ≡ Some planning.program
  pub input : input_in asked ≡ None
  pub unlisted : list_in asked ≡ None
  pub plans : plans_asked asked ≡ Some (Least planning.profile, planning.options)
  pub alone : last_in asked ≡ None
