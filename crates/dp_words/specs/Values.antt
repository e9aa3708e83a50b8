-- What the values of names and options stand for.
use Rattle.std.specs.Prelude.{ℕ, ◌≤◌, Bool, false, Option, Some, None, codes}
use Rattle.std.specs.Str.{bytes_eq}
use Rattle.std.specs.Str.Parse.{digits_value, without_leading_plus}
use Rattle.clap.specs.Words.{Text}
use Rattle.dp_base.specs.declared.limits.TheConstants.{RATE, STAGES, WORKERS}
use Rattle.dp_words.specs.declared.task.PlanOptions.{PlanOptions}

abbrev pub Values : Type 0
Values = Text → Option Text

-- the number that a text stands for
abbrev pub number_in : Text → ℕ
number_in text = digits_value 10 (without_leading_plus text)

-- the number that an option gives; its default, where the option isn't given or the command doesn't have it
abbrev pub number_or : ℕ → Option Text → ℕ
number_or default None = default
number_or default (Some text) = number_in text

-- an option that stands alone is set; one that the command doesn't have isn't
abbrev pub is_set : Option Text → Bool
is_set None = false
is_set (Some text) = bytes_eq text (codes "true")

-- the rate, the stages and the fuel that no option gives
abbrev pub default_rate : ℕ
default_rate = 10

abbrev pub default_stages : ℕ
default_stages = 4

abbrev pub default_fuel : ℕ
default_fuel = 10000000

-- the workers, the places of a lane and the fuel
abbrev pub workers_in : Values → ℕ
workers_in value = number_or 2 (value (codes "workers"))

abbrev pub lane_in : Values → ℕ
lane_in value = number_or 16 (value (codes "lane"))

abbrev pub fuel_in : Values → ℕ
fuel_in value = number_or default_fuel (value (codes "fuel"))

-- the options of automatic plans
abbrev pub options_in : Values → PlanOptions
options_in value = record {
  rate = number_or default_rate (value (codes "rate"));
  stages = number_or default_stages (value (codes "stages"));
  workers = workers_in value;
}

-- they are within their limits
pub record OptionsWithin (options : PlanOptions) : Type 0 where
  pub rare : options.rate ≤ RATE
  pub some_stage : 1 ≤ options.stages
  pub few_stages : options.stages ≤ STAGES
  pub some_worker : 1 ≤ options.workers
  pub few_workers : options.workers ≤ WORKERS
