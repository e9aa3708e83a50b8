-- Where native code has brought a run.
use Rattle.std.specs.Prelude.{◌≡◌, ℕ, ◌+◌, List, ℤ}
use Rattle.dp_tree.specs.declared.Program.{Program}
use Rattle.dp_tree.specs.Step.{Config}
use Rattle.dp_meaning.specs.steps.PlainSteps.{PlainSteps}

-- The fuel, the prints and the configuration before some plain steps, and those behind them.
pub record Reaches (p : Program) (input : List ℤ) (left : ℕ) (out : List ℤ) (c : Config) (left' : ℕ) (out' : List ℤ) (d : Config) : Type 0 where
  pub made : ℕ
  pub spent : left ≡ made + left'
  pub steps : PlainSteps p input c out d out' made
