-- The definition's turn, but that it breaks off where an own site goes against an assumption; and the packets of such turns.
use Rattle.dp_semantics.proofs.Names.{ℕ, zero, suc, ◌+◌, ◌==◌, ◌&&◌, if◌then◌else◌, List, [], ◌∷◌, ◌++◌, ℤ, length, Option, Some, Ok, Err, Result, nat_le}
use Rattle.dp_semantics.proofs.Names.{slice_get, sum_by, Stmt, out-Stmt, Stmt-F, Program, Plan, Evaluated, evaluated, Event, Effect, site_of, event_as_assumed}
use Rattle.dp_semantics.proofs.Names.{words_of, Full, Void, taken_from, Turn, TurnEnd, turned, turn_by, consumed_step, stage_at, words_left, turn_begin}
use Rattle.dp_semantics.proofs.Names.{StageKind, Par, Packet, Passed, passed_on, Epoch, cleared}
use Rattle.dp_semantics.specs.Packets.{fresh}
use Rattle.dp_tree.specs.Step.{line_of}
use Rattle.dp_semantics.specs.Words.{Faults}

module _ (p : Program) (plan : Plan) where
  -- an own site's words are added, where it went as assumed and they fit
  abbrev pub strict_produced : Turn → Stmt → List Stmt → Stmt-F Stmt → Event → Result Turn Void
  strict_produced c x rest head event =
      if event_as_assumed p plan event && nat_le (length (c.own ++ words_of p plan event)) plan.words
      then Ok (turned p plan c x rest head event.effect (c.own ++ words_of p plan event) c.lists)
      else Err Full

  abbrev pub strict_own_step : Turn → Stmt → List Stmt → Stmt-F Stmt → Evaluated Effect → Result Turn Void
  strict_own_step c x rest head (Err kind) = Err (Faults (record { kind = kind; line = line_of p (site_of head) }))
  strict_own_step c x rest head (Ok v) = strict_produced c x rest head (record { site = (site_of head).0; loads = v.loads; effect = v.value })

  module _ (input : List ℤ) (s : ℕ) where
    abbrev pub strict_step : Turn → Stmt → List Stmt → Stmt-F Stmt → Result Turn Void
    strict_step c x rest head =
        if stage_at p plan head == s then strict_own_step c x rest head (evaluated p input c.cells head)
        else consumed_step p plan c x rest head (taken_from p head (words_left p plan c head))

    abbrev pub strict_at : (Turn → TurnEnd) → Turn → List Stmt → TurnEnd
    strict_at go c [] = Ok (record { own = c.own; cells = c.cells; closing = c.closing })
    strict_at go c (x ∷ rest) = turn_by go (strict_step c x rest (out-Stmt x))

    unfoldable pub strict_from : ℕ → Turn → TurnEnd
    strict_from zero c = Err Full
    strict_from (suc n) c = strict_at (strict_from n) c c.to_do

    abbrev pub strict_run : List ℤ → List (List Rattle.dp_base.specs.declared.Word.Word) → TurnEnd
    strict_run cells lists = strict_from (plan.words + sum_by length lists + 1) (turn_begin p plan s cells lists)

module _ (key : Epoch) where
  abbrev pub strict_run_on : ℕ → List ℤ → Packet → Passed
  strict_run_on s before came = passed_on key s before came (strict_run key.program key.plan key.input s before came.lists) came.status

  abbrev pub strict_sequential : ℕ → (ℕ → Passed) → ℕ → Passed
  strict_sequential s came zero = strict_run_on s key.base (came zero).packet
  strict_sequential s came (suc n) = strict_run_on s (cleared key (strict_sequential s came n).after) (came (suc n)).packet

  abbrev pub strict_kind : Option StageKind → ℕ → (ℕ → Passed) → ℕ → Passed
  strict_kind (Some Par) s came n = strict_run_on s (came n).before (came n).packet
  strict_kind _ s came n = strict_sequential s came n

  abbrev pub strict_passed : ℕ → ℕ → Passed
  strict_passed zero n = fresh key
  strict_passed (suc s) n = strict_kind (slice_get key.plan.stages s) (suc s) (strict_passed s) n
