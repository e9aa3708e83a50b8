-- The run that values name.
use Rattle.std.specs.Prelude.{◌≡◌, ℕ, ◌≤◌, Bool, List, Option, Some, None, codes}
use Rattle.std.specs.Option.{option_map}
use Rattle.clap.specs.Words.{Text}
use Rattle.dp_base.specs.declared.limits.TheConstants.{FUEL, LANE}
use Rattle.dp_words.specs.declared.task.PlanOptions.{PlanOptions}
use Rattle.dp_words.specs.declared.task.PlanSource.{PlanSource}
use Rattle.dp_words.specs.declared.task.PlanSource.TheVariants as source
use Rattle.dp_words.specs.declared.task.RunWords.{RunWords}
use Rattle.dp_words.specs.Values.{OptionsWithin, Values, fuel_in, is_set, lane_in, options_in}

-- where plans come from: the text of this name, or they are the least ones, by the profile of this name if there is one
pub data Source : Type 0 where
  Named : List ℕ → Source
  Least : Option (List ℕ) → Source

-- a run: the names of its program and of its input, if it has one, where its plans come from, how least ones are made, the places of a lane,
-- the fuel, and whether its text says why iterations were executed again
pub record RunAsked : Type 0 where
  pub program : List ℕ
  pub input : Option (List ℕ)
  pub source : Source
  pub options : PlanOptions
  pub lane : ℕ
  pub fuel : ℕ
  pub why : Bool

-- where plans come from by the names of a text of plans and of a profile; not both of them
abbrev pub source_of : Option Text → Option Text → Option Source
source_of None profile = Some (Least profile)
source_of (Some plan) None = Some (Named plan)
source_of (Some plan) (Some profile) = None

-- the values are those of this run
pub record ShowsRun (value : Values) (run : RunAsked) : Type 0 where
  pub program : value (codes "program") ≡ Some run.program
  pub input : value (codes "input") ≡ run.input
  pub source : source_of (value (codes "plan")) (value (codes "profile")) ≡ Some run.source
  pub options : run.options ≡ options_in value
  pub lane : run.lane ≡ lane_in value
  pub fuel : run.fuel ≡ fuel_in value
  pub why : run.why ≡ is_set (value (codes "why"))

-- the values are those of this run, and of a further text with this name, under this id
pub record ShowsNamed (id : Text) (value : Values) (named : RunAsked × List ℕ) : Type 0 where
  pub run : ShowsRun value named.0
  pub name : value id ≡ Some named.1

-- where plans come from, by the program's own record
abbrev pub shown_source : PlanSource → Source
shown_source (source.Named name) = Named name.now
shown_source (source.Least profile) = Least (option_map (λ name. name.now) profile)

-- the run that one stands for
abbrev pub shown : RunWords → RunAsked
shown words = record {
  program = words.program.now;
  input = option_map (λ name. name.now) words.input;
  source = shown_source words.source;
  options = words.options;
  lane = words.lane;
  fuel = words.fuel;
  why = words.why;
}

-- the numbers of a run are within their limits
pub record RunWithin (run : RunAsked) : Type 0 where
  pub options : OptionsWithin run.options
  pub some_place : 1 ≤ run.lane
  pub few_places : run.lane ≤ LANE
  pub few_steps : run.fuel ≤ FUEL
