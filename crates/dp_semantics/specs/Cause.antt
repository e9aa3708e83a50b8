-- Why an iteration is executed again: its first failure in the source's order.
use Rattle.std.specs.Prelude.{ℕ, Bool, if◌then◌else◌, List, [], ◌∷◌, ℤ, Option, Some, None, nat_le}
use Rattle.std.specs.Ordering.{int_eq}
use Rattle.dp_base.specs.declared.Fault.{Fault as FaultAt}
use Rattle.dp_base.specs.declared.End.{End}
use Rattle.dp_base.specs.declared.End.TheVariants as run_end
use Rattle.std.specs.Option.{option_or}
use Rattle.dp_tree.specs.declared.Program.{Program}
use Rattle.dp_plan.specs.declared.Plan.{Plan}
use Rattle.dp_tree.specs.Eval.{Load}
use Rattle.dp_tree.specs.Step.{Event}
use Rattle.dp_tree.specs.Trace.{Run}
use Rattle.dp_tree.specs.Iteration.{iteration, memory_after}
use Rattle.dp_plan.specs.Access.{stage_of}
use Rattle.dp_plan.specs.Checked.{is_checked}
use Rattle.dp_semantics.specs.Seen.{Past, seen}
use Rattle.dp_semantics.specs.Clean.{event_as_assumed, word_count, events_since}
use Rattle.dp_semantics.specs.Recovery.{epoch_with, nowhere}

-- a checked load that its stage sees otherwise, a broken assumption, a stage with too many words, a fault, or spent fuel
pub data Cause : Type 0 where
  ByLoad : (site cell : ℕ) (seen source : ℤ) → Cause
  ByAssumption : (site : ℕ) → Cause
  ByWords : (stage site : ℕ) → Cause
  ByFault : FaultAt → Cause
  ByFuel : Cause

-- the load, where this is seen in place of its value
abbrev pub by_load : ℕ → Load → ℤ → Option Cause
by_load site l found = if int_eq found l.value then None else Some (ByLoad site l.cell found l.value)

-- the first of the site's loads that its stage sees otherwise
abbrev pub load_cause : Program → Plan → List ℤ → ℕ → List Past → ℕ → List Load → Option Cause
load_cause p plan base i earlier site [] = None
load_cause p plan base i earlier site (l ∷ rest) =
    option_or (by_load site l (seen p plan base (stage_of p plan site) i earlier l.cell)) (load_cause p plan base i earlier site rest)

-- .. where the site is checked
abbrev pub checked_load_cause : Program → Plan → List ℤ → ℕ → List Past → Event → Option Cause
checked_load_cause p plan base i earlier event =
    if is_checked p plan event.site then load_cause p plan base i earlier event.site event.loads else None

-- the event goes otherwise than assumed
abbrev pub assumption_cause : Program → Plan → Event → Option Cause
assumption_cause p plan event = if event_as_assumed p plan event then None else Some (ByAssumption event.site)

-- the event brings its stage above the plan's words; `done` are the iteration's events before it
abbrev pub words_cause : Program → Plan → List Event → Event → Option Cause
words_cause p plan done event =
    if nat_le (word_count p plan (event ∷ done) (stage_of p plan event.site)) plan.words then None
    else Some (ByWords (stage_of p plan event.site) event.site)

-- at one event the loads come first, then the assumption, then the words
abbrev pub event_cause : Program → Plan → List ℤ → ℕ → List Past → List Event → Event → Option Cause
event_cause p plan base i earlier done event =
    option_or (checked_load_cause p plan base i earlier event) (option_or (assumption_cause p plan event) (words_cause p plan done event))

-- the first event of iteration i that fails
abbrev pub first_cause : Program → Plan → List ℤ → ℕ → List Past → List Event → List Event → Option Cause
first_cause p plan base i earlier done [] = None
first_cause p plan base i earlier done (event ∷ rest) =
    option_or (event_cause p plan base i earlier done event)
    (first_cause p plan base i (record { iteration = i; event = event } ∷ earlier) (event ∷ done) rest)

-- where no event fails: the run's fault, or the spent fuel
abbrev pub end_cause : End → Cause
end_cause (run_end.Fault fault) = ByFault fault
end_cause run_end.Fuel = ByFuel
end_cause run_end.Done = ByFuel

-- this cause, or else the end's
abbrev pub cause_or_end : Option Cause → End → Cause
cause_or_end (Some cause) end = cause
cause_or_end None end = end_cause end

-- the cause of iteration i in the epoch that began at e
abbrev pub cause_since : Program → Plan → Run → ℕ → ℕ → Cause
cause_since p plan run e i =
    cause_or_end (first_cause p plan (memory_after run plan.region e) i (events_since run plan.region e i) [] (iteration run plan.region i)) run.end

-- the cause of iteration i in its own epoch, where some iterations begin one in any case
abbrev pub cause_with : (ℕ → Bool) → Program → Plan → Run → ℕ → Cause
cause_with begins p plan run i = cause_since p plan run (epoch_with begins p plan run i) i

-- .. and where none has to
abbrev pub cause : Program → Plan → Run → ℕ → Cause
cause p plan run i = cause_with nowhere p plan run i
