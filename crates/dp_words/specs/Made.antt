-- The run of the made program that values name.
use Rattle.std.specs.Prelude.{◌≡◌, ◌≤◌, Some, codes}
use Rattle.std.specs.Option.{option_map}
use Rattle.dp_base.specs.declared.limits.TheConstants.{FUEL, INPUT_WORDS, LANE, SEED}
use Rattle.dp_words.specs.declared.task.GenWords.{GenWords}
use Rattle.dp_words.specs.Values.{OptionsWithin, Values, default_fuel, default_rate, default_stages, lane_in, number_in, workers_in}

-- the values are those of this run
pub record ShowsMade (value : Values) (made : GenWords) : Type 0 where
  pub seed : option_map number_in (value (codes "seed")) ≡ Some made.seed
  pub size : option_map number_in (value (codes "size")) ≡ Some made.size
  pub options : made.options ≡ record { rate = default_rate; stages = default_stages; workers = workers_in value }
  pub lane : made.lane ≡ lane_in value
  pub fuel : made.fuel ≡ default_fuel

-- its numbers are within their limits
pub record MadeWithin (made : GenWords) : Type 0 where
  pub small_seed : made.seed ≤ SEED
  pub some_word : 1 ≤ made.size
  pub few_words : made.size ≤ INPUT_WORDS
  pub options : OptionsWithin made.options
  pub some_place : 1 ≤ made.lane
  pub few_places : made.lane ≤ LANE
  pub few_steps : made.fuel ≤ FUEL
