-- What a clause sees of the verdicts of an epoch.
use Rattle.std.specs.Prelude.{◌≡◌, Bool, true, false, ℕ, ◌+◌, []}
use Rattle.dp_semantics.specs.EpochKey.{EpochKey}
use Rattle.dp_semantics.specs.EpochVerdicts.{verdict_at}
use Rattle.dp_judge.specs.declared.verdict.Verdict.{Verdict}
use Rattle.dp_judge.specs.declared.verdict.Verdict.TheVariants.{NoMemory}
use Rattle.dp_judge.specs.Told.{SaysDecided}
use Rattle.dp_lane.specs.declared.rule.View.{View}
use Rattle.dp_lane.specs.declared.rule.View.TheVariants.{Taker}
use Rattle.dp_pipeline.specs.declared.keys.EpochKey.{EpochKey as Held}
use Rattle.dp_pipeline.specs.declared.keys.LaneKey.{LaneKey}
use Rattle.dp_pipeline.specs.Keys.{key_of}

-- what the epoch depends on, how many of its verdicts were given, and the last of these
pub record Coming : Type 0 where
  pub key : EpochKey
  pub given : ℕ
  pub last : Verdict

-- the key of an end that takes nothing
abbrev pub no_key : EpochKey
no_key = record {
  program = record { vars = []; sites = []; regions = []; functions = []; main = [] };
  plan = record { region = 0; words = 0; stages = []; stage_of = []; assume = []; proved = false; checked_at = [] };
  input = [];
  first = 0;
  base = [];
  steps = 0;
  fuel = 0;
}

-- what comes of an epoch of which no verdict was given
abbrev pub coming_of : Held → Coming
coming_of epoch = record { key = (key_of epoch).epoch; given = 0; last = NoMemory }

-- the key of the epoch whose verdicts come on the end of a lane
abbrev pub key_on : View LaneKey → EpochKey
key_on (Taker lane taken) = (key_of lane.epoch).epoch
key_on _ = no_key

-- what comes there, where so many verdicts were given, this one last
abbrev pub coming_on : View LaneKey → ℕ → Verdict → Coming
coming_on view given last = record { key = key_on view; given = given; last = last }

-- the next verdict came, and was given
pub record VerdictComes (old new : Coming) : Type 0 where
  pub verdict_is : SaysDecided old.key new.last (verdict_at old.key old.given)
  pub key_is : new.key ≡ old.key
  pub given_is : new.given ≡ old.given + 1

-- .. or none came
abbrev pub ComesNext : Bool → Coming → Coming → Type 0
ComesNext true old new = VerdictComes old new
ComesNext false old new = (new.key ≡ old.key) × (new.given ≡ old.given)
