-- The iterations that a pipeline under a plan runs as the source does, judged on the source's own trace.
use Rattle.std.specs.Prelude.{ℕ, if◌then◌else◌, zero, suc, ◌+◌, ◌==◌, Bool, true, not, ◌&&◌, ◌||◌, List, [], ◌∷◌, length, ℤ, nat_le, sum_by}
use Rattle.std.specs.List.{list_all}
use Rattle.std.specs.Ordering.{int_eq}
use Rattle.dp_base.specs.Arithmetic.{is_zero}
use Rattle.dp_tree.specs.declared.Program.{Program}
use Rattle.dp_tree.specs.declared.Assume.{Assume}
use Rattle.dp_plan.specs.declared.Plan.{Plan}
use Rattle.dp_tree.specs.Eval.{Load}
use Rattle.dp_tree.specs.Step.{Event, Effect, Stored, Printed, Decided, Tried}
use Rattle.dp_tree.specs.Trace.{Run}
use Rattle.dp_tree.specs.Numbering.{numbers_from}
use Rattle.dp_tree.specs.Iteration.{leaves, iteration, memory_after, has_ended}
use Rattle.dp_plan.specs.Access.{stage_of}
use Rattle.dp_plan.specs.Checked.{is_checked}
use Rattle.dp_semantics.specs.Seen.{Past, seen}

-- stage s in iteration i sees the values that the source loaded
abbrev pub loads_agree : Program → Plan → List ℤ → ℕ → List Past → ℕ → List Load → Bool
loads_agree p plan base i earlier s loads = list_all (λ l. int_eq (seen p plan base s i earlier l.cell) l.value) loads

-- .. at the event's site, where that is checked
abbrev pub event_agrees : Program → Plan → List ℤ → ℕ → List Past → Event → Bool
event_agrees p plan base i earlier event =
    not (is_checked p plan event.site) || loads_agree p plan base i earlier (stage_of p plan event.site) event.loads

-- each of these events of iteration i agrees; those before them stand latest first
abbrev pub all_agree : Program → Plan → List ℤ → ℕ → List Past → List Event → Bool
all_agree p plan base i earlier [] = true
all_agree p plan base i earlier (event ∷ rest) =
    event_agrees p plan base i earlier event && all_agree p plan base i (record { iteration = i; event = event } ∷ earlier) rest

-- the events of iteration i, the latest first, and then the earlier ones
abbrev pub pushed : ℕ → List Event → List Past → List Past
pushed i [] earlier = earlier
pushed i (event ∷ rest) earlier = pushed i rest (record { iteration = i; event = event } ∷ earlier)

-- the events of the iterations from e up to i, without i's own, the latest first
abbrev pub events_since : Run → ℕ → ℕ → ℕ → List Past
events_since run r e zero = []
events_since run r e (suc i) = if nat_le e i then pushed i (iteration run r i) (events_since run r e i) else []

-- a condition went this way: taken where it isn't 0; of any other effect nothing is asked
abbrev pub went : Bool → Effect → Bool
went taken (Decided z) = if is_zero z then not taken else taken
went taken (Stored cell value) = true
went taken (Printed value) = true
went taken (Tried value) = true

-- the effect at the site goes as the plan assumes of its `if`s
abbrev pub goes_as : ℕ → Effect → Assume → Bool
goes_as site effect a = not (a.site.0 == site) || went a.taken effect

-- a break of a stage above 1 isn't taken
abbrev pub stays_late : Program → Plan → ℕ → Effect → Bool
stays_late p plan site effect = not (leaves effect) || nat_le (stage_of p plan site) 1

-- .. as each of its assumptions says, and as is assumed of its breaks
abbrev pub as_assumed : Program → Plan → ℕ → Effect → Bool
as_assumed p plan site effect = list_all (goes_as site effect) plan.assume && stays_late p plan site effect

-- the same of an event
abbrev pub event_as_assumed : Program → Plan → Event → Bool
event_as_assumed p plan event = as_assumed p plan event.site event.effect

-- the words of an event: one for what it did and, at a checked site, one for each load
abbrev pub event_words : Program → Plan → Event → ℕ
event_words p plan event = if is_checked p plan event.site then length event.loads + 1 else 1

-- .. where its site is of stage s
abbrev pub words_at : Program → Plan → ℕ → Event → ℕ
words_at p plan s event = if stage_of p plan event.site == s then event_words p plan event else 0

-- the number of words of stage s for these events
abbrev pub word_count : Program → Plan → List Event → ℕ → ℕ
word_count p plan events s = sum_by (words_at p plan s) events

-- no stage has more words than the plan has room for
abbrev pub fits_words : Program → Plan → List Event → Bool
fits_words p plan events = list_all (λ s. nat_le (word_count p plan events s) plan.words) (numbers_from 1 (length plan.stages))

-- Iteration i is clean in the epoch that began at e: it has ended, each checked load agrees with what its stage sees,
-- each assumed `if` went as assumed, no break of a stage above 1 was taken, and each stage has room for its words.
abbrev pub is_clean : Program → Plan → Run → ℕ → ℕ → Bool
is_clean p plan run e i =
    has_ended run plan.region i
    && all_agree p plan (memory_after run plan.region e) i (events_since run plan.region e i) (iteration run plan.region i)
    && list_all (event_as_assumed p plan) (iteration run plan.region i)
    && fits_words p plan (iteration run plan.region i)
