-- What one call of `iterate` does.
use Rattle.std.specs.Prelude.{◌≡◌, ℕ, ◌<◌, ◌≤◌, Bool, true, false, List, [], ◌∷◌, drop, length, All, ℤ, Option, Some, None}
use Rattle.std.specs.List.{list_any}
use Rattle.dp_tree.specs.Step.{Config, Event}
use Rattle.dp_tree.specs.Iteration.{is_leaving, upto_leaving, last_events, closes}
use Rattle.dp_meaning.specs.declared.ends.Part.TheVariants.{Plain, Region}
use Rattle.dp_meaning.specs.declared.ends.IterEnd.{IterEnd}
use Rattle.dp_meaning.specs.declared.ends.IterEnd.TheVariants.{Next, Closed, Fault, Fuel, Going}
use Rattle.dp_meaning.specs.MachineState.{MachineState, part_of, from_region}
use Rattle.dp_meaning.specs.Moved.{Moved, FaultsNext, HasSpentFuel}

-- The region's condition stands at the head before the iteration's first step, and no region before a later one.
-- Where the iteration was under way, its first step was made by an earlier call.
abbrev pub HeadsOnce : ℕ → Option ℕ → List Config → Type 0
HeadsOnce region (Some r) configs = All (λ c. part_of c.to_do ≡ Plain) configs
HeadsOnce region None [] = Unit {0}
HeadsOnce region None (c ∷ rest) = (part_of c.to_do ≡ Region region) × All (λ d. part_of d.to_do ≡ Plain) rest

-- the region was left in this call: its condition gave 0, or a break was taken
abbrev pub has_closed : Option ℕ → List Event → Bool
has_closed (Some r) events = list_any is_leaving events
has_closed None events = closes events

-- the events up to and with the one that leaves the region
abbrev pub upto_closing : Option ℕ → List Event → List Event
upto_closing (Some r) events = upto_leaving events
upto_closing None events = last_events events

-- the region whose iteration is under way after these events
abbrev pub current_after : ℕ → Option ℕ → List Event → Option ℕ
current_after region current [] = current
current_after region current (event ∷ rest) = Some region

-- the condition is still to be evaluated, or it was and no region is at the head
abbrev pub AwaitsCondition : ℕ → Option ℕ → Config → Type 0
AwaitsCondition region None c = part_of c.to_do ≡ Region region
AwaitsCondition region (Some r) c = part_of c.to_do ≡ Plain

-- the iteration hasn't ended
pub record IterationGoesOn (region : ℕ) (old new : MachineState) (events : List Event) : Type 0 where
  pub not_closed : has_closed old.current events ≡ false
  pub current : new.current ≡ current_after region old.current events
  pub awaits : AwaitsCondition region new.current new.config
  pub behind : from_region new.config.to_do ≡ from_region old.config.to_do

-- the condition stands at the head again, as when the iteration began
pub record StartsAgain (region : ℕ) (old new : MachineState) (events : List Event) : Type 0 where
  pub not_closed : has_closed old.current events ≡ false
  pub current : new.current ≡ None
  pub head : part_of new.config.to_do ≡ Region region
  pub rest : new.config.to_do ≡ from_region old.config.to_do
  pub some : old.current ≡ None → 0 < length events

-- the last step left the region, and what is left to do is what stands behind it
pub record HasClosed (old new : MachineState) (events : List Event) : Type 0 where
  pub closed : has_closed old.current events ≡ true
  pub last : upto_closing old.current events ≡ events
  pub current : new.current ≡ None
  pub rest : new.config.to_do ≡ drop 1 (from_region old.config.to_do)

-- Why the call stops: the iteration has ended, or it goes on and there is a fault, no fuel, or no turn left.
abbrev pub IterationStops : ℕ → ℕ → MachineState → MachineState → List Event → IterEnd → Type 0
IterationStops region turns old new events Next = StartsAgain region old new events
IterationStops region turns old new events Closed = HasClosed old new events
IterationStops region turns old new events (Fault fault) = IterationGoesOn region old new events × (length events < turns) × FaultsNext new fault
IterationStops region turns old new events Fuel = IterationGoesOn region old new events × HasSpentFuel new
IterationStops region turns old new events Going = IterationGoesOn region old new events × (new.steps < new.fuel) × (length events ≡ turns)

-- The call makes the steps of one iteration, at most so many, and answers why it stops.
-- The events are those of its steps, and the configurations those before each of them.
pub record IterationRun (region turns : ℕ) (old new : MachineState) (before after : List ℤ) (end : IterEnd) : Type 0 where
  pub events : List Event
  pub configs : List Config
  pub moved : Moved old new before after events configs
  pub heads : HeadsOnce region old.current configs
  pub within : length events ≤ turns
  pub stops : IterationStops region turns old new events end
  pub spoiled : new.spoiled ≡ old.spoiled
