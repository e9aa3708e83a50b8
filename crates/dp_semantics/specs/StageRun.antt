-- One turn of a stage: it evaluates its own sites, and follows the earlier stages' words at theirs.
use Rattle.std.specs.Prelude.{ℕ, if◌then◌else◌, zero, suc, ◌+◌, ◌-◌, ◌==◌, Bool, false, ◌&&◌, ◌||◌, List, [], ◌∷◌, ◌++◌, length, ℤ, Result, Ok, Err, slice_set}
use Rattle.std.specs.Prelude.{nat_le, sum_by}
use Rattle.dp_base.specs.declared.Word.{Word}
use Rattle.dp_base.specs.Arithmetic.{is_zero}
use Rattle.dp_tree.specs.declared.Stmt.{Stmt, out-Stmt}
use Rattle.dp_tree.specs.declared.Stmt.TheOpen.{Stmt-F}
use Rattle.dp_tree.specs.declared.Program.{Program}
use Rattle.dp_plan.specs.declared.Plan.{Plan}
use Rattle.dp_tree.specs.Eval.{Evaluated}
use Rattle.dp_tree.specs.Step.{Event, Effect, value_of, stored, line_of, site_of, evaluated, followed}
use Rattle.dp_tree.specs.Iteration.{leaves}
use Rattle.dp_plan.specs.Access.{stage_of, first_site, region_statement}
use Rattle.dp_semantics.specs.Project.{project_all}
use Rattle.dp_semantics.specs.Words.{Void, Faults, Full, Taken, words_of, taken_from, word_list}

-- the statements still to do, the memory, the words left of each earlier stage, the stage's own words, and whether the region's condition was 0 or a break was
-- taken
pub record Turn : Type 0 where
  pub to_do : List Stmt
  pub cells : List ℤ
  pub lists : List (List Word)
  pub own : List Word
  pub closing : Bool

-- a turn that came to its end: the stage's words, its memory, and whether the region's condition was 0 or a break was taken
pub record Ended : Type 0 where
  pub own : List Word
  pub cells : List ℤ
  pub closing : Bool

-- a turn comes to its end or breaks off
abbrev pub TurnEnd : Type 0
TurnEnd = Result Ended Void

-- a 0 at the region's condition
abbrev pub is_zero_at : ℕ → ℕ → ℤ → Bool
is_zero_at first site z = (site == first) && is_zero z

-- a 0 at the region's condition, or a break that is taken
abbrev pub closes_at : ℕ → ℕ → Effect → Bool
closes_at first site effect = is_zero_at first site (value_of effect) || leaves effect

-- the turn after this effect of statement x at the head, with these own words and these lists
abbrev pub turned : Program → Plan → Turn → Stmt → List Stmt → Stmt-F Stmt → Effect → List Word → List (List Word) → Turn
turned p plan c x rest head effect own lists = record {
  to_do = followed x rest head (value_of effect);
  cells = stored effect c.cells;
  lists = lists;
  own = own;
  closing = c.closing || closes_at (first_site p plan) (site_of head).0 effect;
}

-- an own site's words are added, unless they don't fit
abbrev pub produced : Program → Plan → Turn → Stmt → List Stmt → Stmt-F Stmt → Event → Result Turn Void
produced p plan c x rest head event =
    if nat_le (length (c.own ++ words_of p plan event)) plan.words
    then Ok (turned p plan c x rest head event.effect (c.own ++ words_of p plan event) c.lists)
    else Err Full

-- an own site is evaluated
abbrev pub own_step : Program → Plan → Turn → Stmt → List Stmt → Stmt-F Stmt → Evaluated Effect → Result Turn Void
own_step p plan c x rest head (Err kind) = Err (Faults (record { kind = kind; line = line_of p (site_of head) }))
own_step p plan c x rest head (Ok v) = produced p plan c x rest head (record { site = (site_of head).0; loads = v.loads; effect = v.value })

-- the stage of the statement's site
abbrev pub stage_at : Program → Plan → Stmt-F Stmt → ℕ
stage_at p plan head = stage_of p plan (site_of head).0

-- the statement does what the words of its stage say
abbrev pub consumed : Program → Plan → Turn → Stmt → List Stmt → Stmt-F Stmt → Taken → Turn
consumed p plan c x rest head w = turned p plan c x rest head w.effect c.own (slice_set c.lists (stage_at p plan head - 1) w.rest)

-- .. where those words are the site's
abbrev pub consumed_step : Program → Plan → Turn → Stmt → List Stmt → Stmt-F Stmt → Result Taken Void → Result Turn Void
consumed_step p plan c x rest head (Err why) = Err why
consumed_step p plan c x rest head (Ok w) = Ok (consumed p plan c x rest head w)

-- the words that are left of the statement's stage
abbrev pub words_left : Program → Plan → Turn → Stmt-F Stmt → List Word
words_left p plan c head = word_list c.lists (stage_at p plan head)

-- one step of stage s at the head: at its own site it evaluates, at another it takes that stage's words
abbrev pub turn_step : Program → Plan → List ℤ → ℕ → Turn → Stmt → List Stmt → Stmt-F Stmt → Result Turn Void
turn_step p plan input s c x rest head =
    if stage_at p plan head == s then own_step p plan c x rest head (evaluated p input c.cells head)
    else consumed_step p plan c x rest head (taken_from p head (words_left p plan c head))

-- it goes on, or breaks off
abbrev pub turn_by : (Turn → TurnEnd) → Result Turn Void → TurnEnd
turn_by go (Ok next) = go next
turn_by go (Err why) = Err why

-- it ends with the region's text
abbrev pub turn_at : Program → Plan → List ℤ → ℕ → (Turn → TurnEnd) → Turn → List Stmt → TurnEnd
turn_at p plan input s go c [] = Ok (record { own = c.own; cells = c.cells; closing = c.closing })
turn_at p plan input s go c (x ∷ rest) = turn_by go (turn_step p plan input s c x rest (out-Stmt x))

-- the turn from here, of at most n steps; each step adds one of the plan's words or takes one of the lists
unfoldable pub turn_from : Program → Plan → List ℤ → ℕ → ℕ → Turn → TurnEnd
turn_from p plan input s zero c = Err Full
turn_from p plan input s (suc n) c = turn_at p plan input s (turn_from p plan input s n) c c.to_do

-- the start of the turn of stage s, from a memory and the earlier stages' words
abbrev pub turn_begin : Program → Plan → ℕ → List ℤ → List (List Word) → Turn
turn_begin p plan s cells lists =
    record { to_do = project_all p plan s (region_statement p plan); cells = cells; lists = lists; own = []; closing = false }

-- the turn of stage s
abbrev pub stage_run : Program → Plan → List ℤ → ℕ → List ℤ → List (List Word) → TurnEnd
stage_run p plan input s cells lists = turn_from p plan input s (plan.words + sum_by length lists + 1) (turn_begin p plan s cells lists)
