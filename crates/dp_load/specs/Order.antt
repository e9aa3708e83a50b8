-- The texts that are read for what the words ask for, in their order: the program, its input or a list of inputs, its plans, and what stands behind them.
use Rattle.std.specs.Prelude.{ℕ, List, ℤ, Option, Some, None, Result}
use Rattle.dp_tree.specs.declared.Program.{Program}
use Rattle.dp_calls.specs.Expand.{expand}
use Rattle.dp_plan.specs.declared.Plan.{Plan}
use Rattle.dp_words.specs.Words.{Asked, ToAudit, ToBatch, ToResume}
use Rattle.dp_refusal.specs.declared.refusal.Refusal.{Refusal}
use Rattle.dp_load.specs.Last.{LastText, Checkpoint, Last, LastOf, Log}
use Rattle.dp_load.specs.Lists.{Inputs}
use Rattle.dp_load.specs.Roles.{Contents, Input, PlansOf, ProgramOf, input_in, plans_asked, program_in}
use Rattle.dp_load.specs.Then.{Then}

-- the name of the list that stands in an input's place, if there is one
abbrev pub list_in : Asked → Option (List ℕ)
list_in (ToBatch run list) = Some list
list_in _ = None

-- the text that is read behind the plans, if there is one
abbrev pub last_in : Asked → Option Last
last_in (ToAudit run log) = Some (Log log)
last_in (ToResume run checkpoint) = Some (Checkpoint checkpoint)
last_in _ = None

-- a program and its input
abbrev pub WithInput : Contents → Asked → Result (Program × List ℤ) Refusal → Type 0
WithInput contents asked = Then (ProgramOf contents (program_in asked)) (λ (p : Program). Input contents (input_in asked))

-- .. and the inputs of a list
abbrev pub WithInputs : Contents → Asked → Result ((Program × List ℤ) × List (List ℤ)) Refusal → Type 0
WithInputs contents asked = Then (WithInput contents asked) (λ (read : Program × List ℤ). Inputs contents (list_in asked))

-- .. and the plans of the expanded program
abbrev pub WithPlans : Contents → Asked → Result (((Program × List ℤ) × List (List ℤ)) × List Plan) Refusal → Type 0
WithPlans contents asked =
    Then (WithInputs contents asked) (λ (read : (Program × List ℤ) × List (List ℤ)). PlansOf contents (expand read.0.0) (plans_asked asked))

-- .. and what stands behind them
abbrev pub ReadsAll : Contents → Asked → Result ((((Program × List ℤ) × List (List ℤ)) × List Plan) × LastText) Refusal → Type 0
ReadsAll contents asked =
    Then (WithPlans contents asked) (λ (read : ((Program × List ℤ) × List (List ℤ)) × List Plan). LastOf contents (expand read.0.0.0) (last_in asked))

-- what all of them give
pub record Given : Type 0 where
  pub program : Program
  pub numbers : List ℤ
  pub listed : List (List ℤ)
  pub plans : List Plan
  pub last : LastText

-- the same by their names
abbrev pub given_by : (((Program × List ℤ) × List (List ℤ)) × List Plan) × LastText → Given
given_by read = record { program = read.0.0.0.0; numbers = read.0.0.0.1; listed = read.0.0.1; plans = read.0.1; last = read.1 }
