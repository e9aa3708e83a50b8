-- The least plans that values name.
use Rattle.std.specs.Prelude.{◌≡◌, ℕ, List, Option, Some, codes}
use Rattle.std.specs.Option.{option_map}
use Rattle.dp_words.specs.declared.task.PlanOptions.{PlanOptions}
use Rattle.dp_words.specs.declared.task.PlanWords.{PlanWords}
use Rattle.dp_words.specs.Values.{Values, options_in}

-- the least plans of a program: its name, that of the profile, if there is one, and how they are made
pub record Planning : Type 0 where
  pub program : List ℕ
  pub profile : Option (List ℕ)
  pub options : PlanOptions

-- the values are those of these plans
pub record ShowsPlanning (value : Values) (planning : Planning) : Type 0 where
  pub program : value (codes "program") ≡ Some planning.program
  pub profile : value (codes "profile") ≡ planning.profile
  pub options : planning.options ≡ options_in value

-- the plans that the program's own record stands for
abbrev pub shown_planning : PlanWords → Planning
shown_planning words = record { program = words.program.now; profile = option_map (λ name. name.now) words.profile; options = words.options }
