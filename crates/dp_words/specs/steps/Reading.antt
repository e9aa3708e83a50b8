-- What the matches of a command's words hold.
use Rattle.std.specs.Prelude.{◌≡◌, ℕ, ◌<◌, ◌^◌, List, Option, IfSome, codes}
use Rattle.std.specs.Str.Parse.{IsNumeral, digits_value, without_leading_plus}
use Rattle.clap.specs.Words.{App, IsUnsignedIn, Text, first_value, found_of}
use Rattle.clap.specs.declared.parser.matches.ArgMatches.{ArgMatches}
use Rattle.dp_base.specs.declared.limits.TheConstants.{FUEL, INPUT_WORDS, LANE, RATE, SEED, STAGES, WORKERS}
use Rattle.dp_words.specs.declared.task.TheConstants.{REGION}
use Rattle.dp_words.specs.Commands.{CommandTakes, value_given}
use Rattle.dp_words.specs.Values.{Values}

-- the value of each name and option
abbrev pub values_of : ArgMatches → Values
values_of matches id = first_value (found_of matches) id

-- each number that was given is in its range
pub record HoldsNumbers (value : Values) : Type 0 where
  pub rate : IfSome (value (codes "rate")) (IsUnsignedIn 0 RATE)
  pub stages : IfSome (value (codes "stages")) (IsUnsignedIn 1 STAGES)
  pub workers : IfSome (value (codes "workers")) (IsUnsignedIn 1 WORKERS)
  pub lane : IfSome (value (codes "lane")) (IsUnsignedIn 1 LANE)
  pub fuel : IfSome (value (codes "fuel")) (IsUnsignedIn 0 FUEL)
  pub seed : IfSome (value (codes "seed")) (IsUnsignedIn 0 SEED)
  pub size : IfSome (value (codes "size")) (IsUnsignedIn 1 INPUT_WORDS)
  pub region : IfSome (value (codes "region")) (IsUnsignedIn 1 REGION)
  pub after : IfSome (value (codes "after")) (IsUnsignedIn 0 FUEL)

-- the command takes the words, and these are the values that they give
pub record Finds (app : App) (words : List Text) (value : Values) : Type 0 where
  pub taken : CommandTakes app words
  pub same : (id : Text) → value id ≡ value_given app words id
  pub numbers : HoldsNumbers value

-- a number that was given has decimal digits and less than this many bits
abbrev pub FitsIn : ℕ → Option Text → Type 0
FitsIn bits text = IfSome text (λ t. IsNumeral 10 (without_leading_plus t) × (digits_value 10 (without_leading_plus t) < 2 ^ bits))
