-- What is asked for reads the texts of a run, and no others.
use Rattle.std.specs.Prelude.{◌≡◌, Some, None}
use Rattle.dp_words.specs.Run.{RunAsked}
use Rattle.dp_words.specs.Words.{Asked}
use Rattle.dp_load.specs.Order.{last_in, list_in}
use Rattle.dp_load.specs.Roles.{input_in, plans_asked, program_in}

-- Its program, input and plans are those of the run, and there is no list.
pub record ReadsRun (asked : Asked) (run : RunAsked) : Type 0 where
  pub program : program_in asked ≡ Some run.program
  pub input : input_in asked ≡ run.input
  pub plans : plans_asked asked ≡ Some (run.source, run.options)
  pub unlisted : list_in asked ≡ None

-- .. and nothing is read behind them
pub record ReadsRunAlone (asked : Asked) (run : RunAsked) : Type 0 where
  pub texts : ReadsRun asked run
  pub alone : last_in asked ≡ None
