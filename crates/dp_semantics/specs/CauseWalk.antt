-- How the cause is found: the source's steps through an iteration, with the memory that each stage sees.
use Rattle.std.specs.Prelude.{ℕ, if◌then◌else◌, zero, suc, ◌+◌, List, [], ◌∷◌, ℤ, pos, Option, Some, None, Ok, Err, get_or, nat_le, length, replicate}
use Rattle.std.specs.Option.{option_or}
use Rattle.dp_tree.specs.declared.Stmt.{Stmt, out-Stmt}
use Rattle.dp_tree.specs.declared.Stmt.TheOpen.{Stmt-F}
use Rattle.dp_tree.specs.declared.Program.{Program}
use Rattle.dp_plan.specs.declared.Plan.{Plan}
use Rattle.dp_tree.specs.Eval.{Load, Evaluated}
use Rattle.dp_tree.specs.Step.{Effect, Event, value_of, stored, line_of, site_of, evaluated, followed, clear_locals}
use Rattle.dp_plan.specs.Access.{stage_of, is_replicated}
use Rattle.dp_plan.specs.Checked.{is_checked}
use Rattle.dp_semantics.specs.Clean.{words_at}
use Rattle.dp_semantics.specs.Cause.{Cause, ByFault, ByFuel, ByWords, by_load, assumption_cause}

-- for each stage, the first one's first: the memory that it sees, and the number of its words in this iteration
pub record Watch : Type 0 where
  pub views : List (List ℤ)
  pub counts : List ℕ

-- that of stage s
abbrev pub view_of : List (List ℤ) → ℕ → List ℤ
view_of views zero = []
view_of views (suc s) = get_or views s []

abbrev pub count_of : List ℕ → ℕ → ℕ
count_of counts zero = 0
count_of counts (suc s) = get_or counts s 0

module _ (p : Program) (plan : Plan) (event : Event) where
  -- an event is seen by its own stage and the later ones; the memories of the stages from s on
  abbrev pub shown_from : ℕ → List (List ℤ) → List (List ℤ)
  shown_from s [] = []
  shown_from s (view ∷ rest) = (if nat_le (stage_of p plan event.site) s then stored event.effect view else view) ∷ shown_from (suc s) rest

  -- .. and the numbers of words of the stages from s on
  abbrev pub counted_from : ℕ → List ℕ → List ℕ
  counted_from s [] = []
  counted_from s (n ∷ rest) = (words_at p plan s event + n) ∷ counted_from (suc s) rest

  -- after the event
  abbrev pub watched : Watch → Watch
  watched w = record { views = shown_from 1 w.views; counts = counted_from 1 w.counts }

-- the first of the site's loads whose cell reads otherwise in this memory
abbrev pub load_cause_in : List ℤ → ℕ → List Load → Option Cause
load_cause_in view site [] = None
load_cause_in view site (l ∷ rest) = option_or (by_load site l (get_or view l.cell (pos 0))) (load_cause_in view site rest)

module _ (p : Program) (plan : Plan) where
  -- .. where the site is checked
  abbrev pub checked_cause_in : List ℤ → Event → Option Cause
  checked_cause_in view event = if is_checked p plan event.site then load_cause_in view event.site event.loads else None

  -- the stage has more words than the plan has room for
  abbrev pub words_cause_in : ℕ → Event → Option Cause
  words_cause_in count event = if nat_le count plan.words then None else Some (ByWords (stage_of p plan event.site) event.site)

  -- at one event the loads come first, then the assumption, then the words
  abbrev pub cause_in : Watch → Event → Option Cause
  cause_in w event =
      option_or (checked_cause_in (view_of w.views (stage_of p plan event.site)) event)
      (option_or (assumption_cause p plan event) (words_cause_in (count_of (watched p plan event w).counts (stage_of p plan event.site)) event))

  -- the event of an evaluation
  abbrev pub event_by : Stmt-F Stmt → List Load → Effect → Event
  event_by head loads effect = record { site = (site_of head).0; loads = loads; effect = effect }

  -- the statement's evaluation faults, or its event is looked at, and what follows it
  abbrev pub look_by : (Watch → List Stmt → List ℤ → Option Cause) → Watch → Stmt → List Stmt → List ℤ → Stmt-F Stmt → Evaluated Effect → Option Cause
  look_by go w x rest cells head (Err kind) = Some (ByFault (record { kind = kind; line = line_of p (site_of head) }))
  look_by go w x rest cells head (Ok v) =
      option_or (cause_in w (event_by head v.loads v.value))
      (go (watched p plan (event_by head v.loads v.value) w) (followed x rest head (value_of v.value)) (stored v.value cells))

  -- no step is left
  abbrev pub spent : List Stmt → Option Cause
  spent [] = None
  spent (x ∷ rest) = Some ByFuel

  module _ (input : List ℤ) where
    -- at the end of the iteration's text there is no cause
    abbrev pub look_at : (Watch → List Stmt → List ℤ → Option Cause) → Watch → List Stmt → List ℤ → Option Cause
    look_at go w [] cells = None
    look_at go w (x ∷ rest) cells = look_by go w x rest cells (out-Stmt x) (evaluated p input cells (out-Stmt x))

-- the cause that is met within n steps of the source, from this memory
unfoldable pub cause_walk : Program → Plan → List ℤ → ℕ → Watch → List Stmt → List ℤ → Option Cause
cause_walk p plan input zero w to_do cells = spent p plan to_do
cause_walk p plan input (suc n) w to_do cells = look_at p plan input (cause_walk p plan input n) w to_do cells

-- The memories from stage s on with which the next iteration starts: a sequential stage's own with the body locals at 0,
-- and a replicated one's that of the stage before it.
abbrev pub next_from : Program → Plan → ℕ → List ℤ → List (List ℤ) → List (List ℤ)
next_from p plan s before [] = []
next_from p plan s before (view ∷ rest) =
    let own = if is_replicated plan s then before else clear_locals plan.region p.vars view in
    own ∷ next_from p plan (suc s) own rest

-- no words yet
abbrev pub no_words : List ℕ → List ℕ
no_words [] = []
no_words (n ∷ rest) = 0 ∷ no_words rest

-- where the next iteration starts
abbrev pub next_watch : Program → Plan → Watch → Watch
next_watch p plan w = record { views = next_from p plan 1 [] w.views; counts = no_words w.counts }

-- where an epoch begins
abbrev pub first_watch : Plan → List ℤ → Watch
first_watch plan base = record { views = replicate (length plan.stages) base; counts = replicate (length plan.stages) 0 }

-- after several events
abbrev pub watched_all : Program → Plan → List Event → Watch → Watch
watched_all p plan [] w = w
watched_all p plan (event ∷ rest) w = watched_all p plan rest (watched p plan event w)
