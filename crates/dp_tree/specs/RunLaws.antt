-- What runs amount to: their events are those of their steps, and less fuel gives a front of them.
use Rattle.std.specs.Prelude.{◌≡◌, ◌⊎◌, ℕ, suc, ◌-◌, ◌<◌, ◌≤◌, List, [], ◌∷◌, ℤ, length, take, Bool, true, false, Some, slice_get}
use Rattle.dp_base.specs.declared.End.{End}
use Rattle.dp_base.specs.declared.End.TheVariants.{Done, Fault, Fuel}
use Rattle.dp_tree.specs.declared.Stmt.{Stmt}
use Rattle.dp_tree.specs.declared.Program.{Program}
use Rattle.dp_tree.specs.Step.{Config, Event, Finished, Faulted, Stepped, step}
use Rattle.dp_tree.specs.Trace.{Run, run_of}

-- a run with fuel for m steps against one with more
pub record IsFront (m : ℕ) (short long : Run) : Type 0 where
  pub trace : short.trace ≡ take m long.trace
  pub configs : short.configs ≡ take (suc m) long.configs
  -- more fuel changes no other end
  pub end : (short.end ≡ Fuel) ⊎ (long.end ≡ short.end)

-- From each configuration, a run with less fuel is a front of one with more.
abbrev pub FuelExtends : Program → List ℤ → Type 0
FuelExtends p input = (m n : ℕ) (c : Config) → m ≤ n → IsFront m (run_of p input m c) (run_of p input n c)

-- nothing is left to do
abbrev pub is_empty : List Stmt → Bool
is_empty [] = true
is_empty (s ∷ rest) = false

-- why a run ends at a configuration, where so many steps are left
abbrev pub EndsAt : Program → List ℤ → ℕ → Config → End → Type 0
EndsAt p input left c Done = step p input c ≡ Finished
EndsAt p input left c (Fault fault) = (0 < left) × (step p input c ≡ Faulted fault)
EndsAt p input left c Fuel = (left ≡ 0) × (is_empty c.to_do ≡ false)

-- the run goes step by step from c
pub record GoesByStep (p : Program) (input : List ℤ) (fuel : ℕ) (c : Config) (run : Run) : Type 0 where
  -- the run keeps the fuel that it was given
  pub kept : run.fuel ≡ fuel
  -- one event a step, and one configuration more
  pub steps_within : length run.trace ≤ fuel
  pub one_more : length run.configs ≡ suc (length run.trace)
  pub first : slice_get run.configs 0 ≡ Some c
  pub each : (k : ℕ) (before after : Config) (event : Event) → slice_get run.configs k ≡ Some before → slice_get run.trace k ≡ Some event →
      slice_get run.configs (suc k) ≡ Some after →
      step p input before ≡ Stepped event after
  pub last : (d : Config) → slice_get run.configs (length run.trace) ≡ Some d → EndsAt p input (fuel - length run.trace) d run.end

-- The run from each configuration goes step by step.
abbrev pub RunsByStep : Program → List ℤ → Type 0
RunsByStep p input = (fuel : ℕ) (c : Config) → GoesByStep p input fuel c (run_of p input fuel c)
