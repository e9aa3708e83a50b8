-- What the stages of a plan see of the source's run, kept from event to event.
use Rattle.std.specs.Prelude.{ℕ, ◌+◌, if◌then◌else◌, List, [], ◌∷◌, ℤ, length, map, Option, Some, None, nat_le}
use Rattle.std.specs.Option.{option_map, option_or}
use Rattle.dp_base.specs.declared.SiteId.{SiteId}
use Rattle.dp_base.specs.declared.Cause.{Cause}
use Rattle.dp_base.specs.declared.Cause.TheVariants.{Load}
use Rattle.dp_tree.specs.declared.Program.{Program}
use Rattle.dp_tree.specs.Event as event
use Rattle.dp_tree.specs.Step.{Event, stored, clear_locals}
use Rattle.dp_plan.specs.declared.Plan.{Plan}
use Rattle.dp_meaning.specs.declared.sight.Effect.{Effect}
use Rattle.dp_meaning.specs.declared.sight.Effect.TheVariants as effect
use Rattle.dp_plan.specs.Checked.{is_checked}
use Rattle.dp_semantics.specs.Cause.{Cause as Failure, ByWords, assumption_cause}
use Rattle.dp_semantics.specs.CauseWalk.{Watch, cause_in, checked_cause_in, view_of, watched, next_watch, first_watch}
use Rattle.dp_semantics.specs.LoadedCells.{load_from}
use Rattle.dp_semantics.specs.Reported.{reported}

-- `watch` is what each stage sees, and how many words it has in this iteration; it is kept until something of the iteration fails.
-- `source` is the source's memory, and `before` what that was where the iteration began. `found` is the iteration's first failure.
pub record Viewed : Type 0 where
  pub program : Program
  pub plan : Plan
  pub watch : Watch
  pub source : List ℤ
  pub before : List ℤ
  pub found : Option Cause

-- where an epoch begins with this memory
abbrev pub begun : Program → Plan → List ℤ → Viewed
begun p plan cells = record { program = p; plan = plan; watch = first_watch plan cells; source = cells; before = cells; found = None }

-- an effect of the machine, as the definitions have it
abbrev pub effect_of : Effect → event.Effect
effect_of (effect.Stored cell value) = event.Stored cell value
effect_of (effect.Printed value) = event.Printed value
effect_of (effect.Decided value) = event.Decided value
effect_of (effect.Tried value) = event.Tried value

-- the event that a step tells: its site, its effect and the cells that it loads, from the memory before it
abbrev pub event_told : List ℤ → SiteId → Effect → List ℕ → Event
event_told source site seen cells = record { site = site.0; loads = map (load_from source) cells; effect = effect_of seen }

-- the first failure of an event of stage s by its loads, or by what is assumed of it
abbrev pub fails_at : Viewed → ℕ → Event → Option Failure
fails_at v s event = option_or (checked_cause_in v.program v.plan (view_of v.watch.views s) event) (assumption_cause v.program v.plan event)

-- a load that its stage sees otherwise, as it is told
abbrev pub told_load : SiteId → ℕ → ℤ → ℤ → Option Cause
told_load site c seen value = Some (Load site (record { 0 = c }) seen value)

-- so many words of a stage, with those of an event at the site, are more than there is room for
abbrev pub many_words : ℕ → ℕ → ℕ → ℕ → Option Failure
many_words made room stage site = if nat_le made room then None else Some (ByWords stage site)

-- the number of words of an event at the site, which loads these cells
abbrev pub words_told : Viewed → SiteId → List ℕ → ℕ
words_told v site cells = if is_checked v.program v.plan site.0 then length cells + 1 else 1

-- after an event of an iteration of which nothing has failed so far, or of one that failed before
abbrev pub noticed : Option Cause → Event → Viewed → Viewed
noticed (Some cause) event v = record v { source = stored event.effect v.source }
noticed None event v = record v {
  watch = watched v.program v.plan event v.watch;
  source = stored event.effect v.source;
  found = option_map reported (cause_in v.program v.plan v.watch event);
}

abbrev pub after_event : Event → Viewed → Viewed
after_event event v = noticed v.found event v

-- after several events
abbrev pub after_all : List Event → Viewed → Viewed
after_all [] v = v
after_all (event ∷ rest) v = after_all rest (after_event event v)

-- the iteration is over: its body locals read 0
abbrev pub settled : Viewed → Viewed
settled v = record v { source = clear_locals v.plan.region v.program.vars v.source }

-- the next iteration begins in the same epoch
abbrev pub next_in_epoch : Viewed → Viewed
next_in_epoch v = record v { watch = next_watch v.program v.plan v.watch; before = v.source; found = None }

-- .. or a new epoch begins with it
abbrev pub anew : Viewed → Viewed
anew v = record v { watch = first_watch v.plan v.source; before = v.source; found = None }
