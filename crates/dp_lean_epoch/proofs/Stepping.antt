-- A stage's code comes to an end at each iteration whose packet isn't void, as the stage does.
use Rattle.dp_semantics.proofs.Names.{◌≡◌, refl, sym, ap, ◌∙◌, subst, arith, ℕ, suc, ◌≤◌, Bool, true, false, List, ◌++◌, ℤ, length, Option, Some, None}
use Rattle.dp_semantics.proofs.Names.{not-true, cases_Bool, inl, inr, Stmt, is_replicated, fits_plan}
use Rattle.dp_tree.specs.Inlined.{IsInlined}
use Rattle.dp_semantics.specs.EpochKey.{EpochKey}
use Rattle.dp_net.specs.NetItems.{Marks, item_list}
use Rattle.dp_net.specs.NetRun.{NetEnded}
use Rattle.dp_net.specs.NetPackets.{NetStatus, NetGoing, NetClosing, NetVoid, net_status_of, NetPassed}
use Rattle.dp_net.specs.Follows.{is_void}
use Rattle.dp_net.specs.Hidden.{marks_of}
use Rattle.dp_lean.specs.Queues.{Told, told_in}
use Rattle.dp_lean.specs.LeanTurn.{LeanEnd, Arrived, BrokenOff}
use Rattle.dp_lean.specs.Laws.{AgreesOn, Queued, TurnsAlike, RunsAlike}
use Rattle.dp_lean.proofs.Placed.{lean_turns}
use Rattle.dp_lean.proofs.Coming.{packets_come}
use Rattle.dp_lean.proofs.GoingOn.{memories_go_on}
use Rattle.dp_lean_code.proofs.LeanCodes.{code_is_right}
use Rattle.dp_lean_epoch.specs.Own.{at_stage, Arrives}
use Rattle.dp_lean_epoch.specs.Coming.{Brought, LeanStands}
use Rattle.dp_lean_epoch.specs.Steps.{StepEnds, StageSteps, WorkersBegin, feeds_itself, keeps_memory, without_locals}
use Rattle.dp_lean_epoch.proofs.Arriving.{turn_at, passed_by_turn, last_list, upto_is, sized}
use Rattle.dp_lean_epoch.proofs.Memories.{next_alone, workers_before}

module _ (key : EpochKey) (inlined : IsInlined key.program) (fits : fits_plan key.program key.plan ≡ true) (pays : List Stmt → Bool) where
  open key use {program, plan, input}

  abbrev m : Marks
  m = marks_of program plan pays

  pub queued : (s n : ℕ) → Arrives m key s n → (queues more : ℕ → List Told) → Brought m key s n queues more →
      Queued program plan m (suc s) (at_stage m key s n).packet.lists queues more
  queued s n alive queues more brought y read =
      brought y read ∙ ap (λ (front : List Told). front ++ more y) (upto_is m key s n y alive (told_in y) refl)

  pub workers_begin : WorkersBegin m key
  workers_begin s n high workers memory stands =
      let early : suc s ≤ length plan.stages = high in
      subst (λ (cells : List ℤ). AgreesOn program plan (suc s) cells memory) (sym (workers_before m key s n workers))
      ((memories_go_on program plan fits s (at_stage m key s n).before memory stands).1 early workers)

  -- what holds of the workers of a stage that doesn't feed itself
  abbrev pub WorkersGoOn : Type 0
  WorkersGoOn = (s n : ℕ) → is_replicated plan (suc s) ≡ true → feeds_itself program plan (suc s) ≡ false → Arrives m key (suc s) n → (memory : List ℤ) →
      AgreesOn program plan (suc s) (at_stage m key (suc s) n).after memory → LeanStands m key (suc s) (suc n) (without_locals m key memory)

  status_alive : (status : NetStatus) (closing : Bool) → is_void status ≡ false → is_void (net_status_of status closing) ≡ false
  status_alive NetGoing true e = refl
  status_alive NetGoing false e = refl
  status_alive NetClosing closing e = refl
  status_alive NetVoid closing e = e

  module _ (workers_go_on : WorkersGoOn) (s n : ℕ) (alive : Arrives m key s n) (more : ℕ → List Told) where
    after_alone : is_replicated plan (suc s) ≡ false → (memory : List ℤ) → AgreesOn program plan (suc s) (at_stage m key (suc s) n).after memory →
        LeanStands m key (suc s) (suc n) (without_locals m key memory)
    after_alone alone memory agrees = subst (λ (cells : List ℤ). AgreesOn program plan (suc s) cells (without_locals m key memory))
        (sym (next_alone m key s n alone))
        (memories_go_on program plan fits (suc s) (at_stage m key (suc s) n).after memory agrees).0

    memory_next : Arrives m key (suc s) n → (memory : List ℤ) → AgreesOn program plan (suc s) (at_stage m key (suc s) n).after memory →
        keeps_memory program plan (suc s) ≡ true → LeanStands m key (suc s) (suc n) (without_locals m key memory)
    memory_next arrives memory agrees keeps = elim (cases_Bool (is_replicated plan (suc s))) [
      | inl workers ↦ workers_go_on s n workers (not-true (feeds_itself program plan (suc s)) (rw workers at keeps)) arrives memory agrees
      | inr alone ↦ after_alone alone memory agrees
    ]

    arrives_as : (e : NetEnded) (f : LeanEnd) → turn_at m key s n ≡ Some e → TurnsAlike program plan m (suc s) more (Some e) f → StepEnds m key s n more f
    arrives_as e BrokenOff is same = absurd same
    arrives_as e (Arrived f) is same =
        let went = passed_by_turn m key s n alive (Some e) is in
        let status : (at_stage m key (suc s) n).packet.status ≡ net_status_of (at_stage m key s n).packet.status e.closing =
        ap (λ (w : NetPassed). w.packet.status) went in
        record {
          own = same.own ∙ sym (ap (λ (w : NetPassed). item_list w.packet.lists (suc s)) went
              ∙ last_list m key (at_stage m key s n).packet.lists e.own s (sized m key s n alive));
          status = status ∙ ap (net_status_of (at_stage m key s n).packet.status) (sym same.closing);
          left = same.left;
          next = memory_next (ap is_void status ∙ status_alive (at_stage m key s n).packet.status e.closing alive) f.turn.cells
              (subst (λ (cells : List ℤ). AgreesOn program plan (suc s) cells f.turn.cells) (sym (ap (λ (w : NetPassed). w.after) went)) same.cells);
        }

    ends_as : (turn : Option NetEnded) (end : LeanEnd) → turn_at m key s n ≡ turn → TurnsAlike program plan m (suc s) more turn end →
        StepEnds m key s n more end
    ends_as (Some e) end is same = arrives_as e end is same
    ends_as None BrokenOff is same = ap (λ (w : NetPassed). w.packet.status) (passed_by_turn m key s n alive None is)
    ends_as None (Arrived f) is same = absurd same

  pub stage_steps : WorkersGoOn → StageSteps m key
  stage_steps workers_go_on s n high alive memory stands queues more brought =
      let r : RunsAlike program plan m input (suc s) queues more (turn_at m key s n) memory =
      lean_turns program plan inlined fits pays input (suc s) (omega arith) high (at_stage m key s n).packet.lists
      (packets_come program plan inlined fits key refl refl pays s n alive) (at_stage m key (suc s) n).before memory stands queues more
      (queued s n alive queues more brought) in (
        r.0,
        code_is_right program plan inlined fits pays (suc s) (omega arith) input memory queues r.0 r.1,
        ends_as workers_go_on s n alive more (turn_at m key s n) r.0 refl r.2,
      )
