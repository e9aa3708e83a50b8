-- What is heard of the events of an iteration, step by step.
use Rattle.std.specs.Prelude.{◌≡◌, ℕ, ◌+◌, ◌≤◌, ◌∷◌, [], List, ◌++◌, ℤ, map, length}
use Rattle.dp_tree.specs.Step.{Event, stored}
use Rattle.dp_semantics.specs.LoadedCells.{load_from, loaded_cells}
use Rattle.dp_meaning.specs.MachineState.{MachineState, rest_of_run}
use Rattle.dp_meaning.specs.declared.sight.Sight.{Sight}
use Rattle.dp_meaning.specs.declared.sight.Sight.TheVariants as sight
use Rattle.dp_view.specs.Viewed.{Viewed, after_all, after_event, event_told}

-- each event loads from the memory that the ones before it leave
abbrev pub LoadsFrom : List ℤ → List Event → Type 0
LoadsFrom cells [] = Unit {0}
LoadsFrom cells (event ∷ rest) = (event.loads ≡ map (load_from cells) (loaded_cells event.loads)) × LoadsFrom (stored event.effect cells) rest

-- The machine has these events before it, up to this number of steps, and then these.
pub record Comes (m : MachineState) (until : ℕ) (cells : List ℤ) (events later : List Event) : Type 0 where
  pub trace : (rest_of_run m).trace ≡ events ++ later
  pub steps : m.steps + length events ≡ until
  pub loads : LoadsFrom cells events

-- they were made, and are kept
pub record WereMade (m : MachineState) (until : ℕ) (before after : Viewed) (events later : List Event) : Type 0 where
  pub trace : (rest_of_run m).trace ≡ later
  pub steps : m.steps ≡ until
  pub kept : after ≡ after_all events before

-- The steps from one machine to the other were heard: of what comes up to a number of steps that isn't passed, what is left of it leads to the same.
abbrev pub Hears : MachineState → MachineState → Viewed → Viewed → Type 0
Hears old new before after = (until : ℕ) (events later : List Event) → Comes old until before.source events later → new.steps ≤ until →
    (left : List Event) × Comes new until after.source left later × (after_all left after ≡ after_all events before)

-- behind what is seen of a step, and the cells that it loads
abbrev pub after_sight : Sight → List ℕ → Viewed → Viewed
after_sight (sight.Step site seen) cells v = after_event (event_told v.source site seen cells) v
after_sight _ cells v = v
