-- A run as a piece of it and the run from there on.
use Rattle.std.specs.Prelude.{◌≡◌, ◌+◌, List, ◌++◌, length}
use Rattle.dp_tree.specs.Step.{Config, Event}
use Rattle.dp_tree.specs.Trace.{Run}

-- The run begins with these events, and goes on as the other run. Before each event the configuration is the one of `before`.
pub record Continues (run : Run) (events : List Event) (before : List Config) (rest : Run) : Type 0 where
  pub trace : run.trace ≡ events ++ rest.trace
  pub configs : run.configs ≡ before ++ rest.configs
  pub end : run.end ≡ rest.end
  pub fuel : run.fuel ≡ length events + rest.fuel
  pub paired : length before ≡ length events
