-- What the steps of a plain part do, and one call of `run_part`.
use Rattle.std.specs.Prelude.{◌≡◌, ◌≢◌, ℕ, ◌<◌, ◌≤◌, List, length, All, ℤ}
use Rattle.dp_tree.specs.Step.{Config, Event}
use Rattle.dp_meaning.specs.declared.ends.Part.TheVariants.{Plain}
use Rattle.dp_meaning.specs.declared.ends.PartEnd.{PartEnd}
use Rattle.dp_meaning.specs.declared.ends.PartEnd.TheVariants.{Done, Fault, Fuel, Going}
use Rattle.dp_meaning.specs.MachineState.{MachineState, part_of, next_part, from_region}
use Rattle.dp_meaning.specs.Moved.{Moved, FaultsNext, HasSpentFuel}

-- the part is over: what is left begins with the region behind it, or is nothing
pub record IsOver (old new : MachineState) : Type 0 where
  pub part : next_part new ≢ Plain
  pub rest : new.config.to_do ≡ from_region old.config.to_do

-- Why the call stops, after so many steps: the part is over, or it goes on and there is a fault, no fuel, or no turn left.
abbrev pub PartStops : ℕ → ℕ → MachineState → MachineState → PartEnd → Type 0
PartStops turns made old new Done = IsOver old new
PartStops turns made old new (Fault fault) = (next_part new ≡ Plain) × (made < turns) × FaultsNext new fault
PartStops turns made old new Fuel = (next_part new ≡ Plain) × HasSpentFuel new
PartStops turns made old new Going = (next_part new ≡ Plain) × (new.steps < new.fuel) × (made ≡ turns)

-- Some steps of the part were made, or none. The events are those of the steps, and the configurations those before each of them.
pub record PartMoved (old new : MachineState) (before after : List ℤ) : Type 0 where
  pub events : List Event
  pub configs : List Config
  pub moved : Moved old new before after events configs
  pub plain : All (λ c. part_of c.to_do ≡ Plain) configs
  pub behind : from_region new.config.to_do ≡ from_region old.config.to_do
  pub current : new.current ≡ old.current
  pub spoiled : new.spoiled ≡ old.spoiled

-- The call makes the steps of the part, at most so many, and answers why it stops.
pub record PartRun (turns : ℕ) (old new : MachineState) (before after : List ℤ) (end : PartEnd) : Type 0 where
  pub went : PartMoved old new before after
  pub within : length went.events ≤ turns
  pub stops : PartStops turns (length went.events) old new end
