-- Which numbers a command takes.
use Rattle.std.specs.Prelude.{◌≡◌, ℕ, Bool, true, false, ◌==◌, ◌&&◌, not, if◌then◌else◌, codes}
use Rattle.std.specs.List.{list_all}
use Rattle.std.specs.Option.{option_map_or}
use Rattle.std.specs.Str.{bytes_eq}
use Rattle.clap.specs.Words.{App, Rule, Text, is_simple_and_free}
use Rattle.clap.specs.declared.builder.value_parser.ValueParser.{ValueParser}
use Rattle.clap.specs.declared.builder.value_parser.ValueParser.TheVariants as parser
use Rattle.dp_base.specs.declared.limits.TheConstants.{FUEL, INPUT_WORDS, LANE, RATE, SEED, STAGES, WORKERS}
use Rattle.dp_words.specs.declared.task.TheConstants.{REGION}

-- the parser takes the numbers of this range
abbrev pub is_range : ℕ → ℕ → ValueParser → Bool
is_range low high (parser.Unsigned least most) = least == low && most == high
is_range low high _ = false

-- the name or option, if it has this id, takes the numbers of this range
abbrev pub keeps_range : Text → ℕ → ℕ → Rule → Bool
keeps_range id low high rule = if bytes_eq rule.id id then option_map_or (is_range low high) rule.parser false && not rule.ignore_case else true

-- .. each of a command
abbrev pub KeepsRange : App → Text → ℕ → ℕ → Type 0
KeepsRange app id low high = list_all (keeps_range id low high) app.top.rules ≡ true

-- The command is a simple one, and each number that it takes has its range.
pub record TakesNumbers (app : App) : Type 0 where
  pub simple : is_simple_and_free app ≡ true
  pub rate : KeepsRange app (codes "rate") 0 RATE
  pub stages : KeepsRange app (codes "stages") 1 STAGES
  pub workers : KeepsRange app (codes "workers") 1 WORKERS
  pub lane : KeepsRange app (codes "lane") 1 LANE
  pub fuel : KeepsRange app (codes "fuel") 0 FUEL
  pub seed : KeepsRange app (codes "seed") 0 SEED
  pub size : KeepsRange app (codes "size") 1 INPUT_WORDS
  pub region : KeepsRange app (codes "region") 1 REGION
  pub after : KeepsRange app (codes "after") 0 FUEL
