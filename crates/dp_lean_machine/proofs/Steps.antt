-- What one more iteration of a batch comes to at a stage.
use Rattle.dp_semantics.proofs.Names.{◌≡◌, inl, inr, refl, sym, ap, ◌∙◌, subst, arith, ℕ, suc, ◌+◌, ◌-◌, ◌<◌, ◌≤◌, Bool, true, false, ◌⊎◌, cases_lt, List, []}
use Rattle.dp_semantics.proofs.Names.{◌∷◌, ◌++◌, ℤ, map, sum_by, clear_locals, Program, numbers_from, flat_map}
use Rattle.dp_base.specs.declared.CellId.{CellId}
use Rattle.dp_plan.specs.declared.Plan.{Plan}
use Rattle.dp_lean_judge.specs.Locals.{clear_cells, local_cells}
use Rattle.dp_lean_judge.proofs.LocalLemmas.{clear_local_cells}
use Rattle.dp_net.specs.NetItems.{Item}
use Rattle.dp_net.specs.NetPackets.{NetClosing, net_status_of}
use Rattle.dp_lean.specs.Queues.{Told, steps_in}
use Rattle.dp_lean.specs.LeanTurn.{LeanEnd, LeanTurn, Arrived}
use Rattle.dp_lean_code.specs.declared.LeanOp.{LeanOp}
use Rattle.dp_lean_code.specs.LeanHeld.{flat_begin}
unfoldable use Rattle.dp_lean_code.specs.LeanFlat.{lean_flat}
use Rattle.dp_columns.specs.declared.ColumnKind.{ColumnKind}
use Rattle.dp_columns.specs.Columned.{Columned}
use Rattle.dp_columns.specs.Left.{Left}
use Rattle.dp_lean_turn.specs.declared.Turn.{Turn}
use Rattle.dp_lean_turn.specs.declared.Turned.{Turned}
use Rattle.dp_lean_turn.specs.declared.Turned.TheVariants as turned
use Rattle.dp_lean_turn.specs.Doing.{RunEnds, LeavesTurn}
use Rattle.dp_lean_turn.specs.Ending.{TurnIs, AsTurned}
use Rattle.dp_lean_turn.specs.Left.{AreLeft}
use Rattle.dp_lean_turn.specs.Standing.{IsSettled, Keeps}
use Rattle.dp_lean_turn.specs.Told.{put_own}
use Rattle.dp_lean_epoch.specs.Own.{at_stage, Arrives, own_items, own_steps, told_upto}
use Rattle.dp_lean_epoch.specs.Coming.{Brought, QueuesBring, LeanStands}
use Rattle.dp_lean_epoch.specs.Holding.{StageColumns, HoldsTold, QueuesGrown, columns_filled}
use Rattle.dp_lean_epoch.specs.LeanBatch.{Stood, IterationsStand}
use Rattle.dp_lean_epoch.specs.Laws.{ColumnsFill}
use Rattle.dp_lean_epoch.specs.Steps.{keeps_memory, without_locals, ArrivesAs, StepEnds, CodeEnds}
use Rattle.dp_lean_region.specs.LeanEpoch.{LeanEpoch, epoch_marks, begin_in, size_in}
use Rattle.dp_lean_region.specs.Line.{RunsIn}
use Rattle.dp_lean_region.specs.Ready.{HasLocals}
use Rattle.dp_lean_machine.specs.Settled.{Settled}
use Rattle.dp_lean_machine.specs.Within.{own_kinds, kept_own, PassesOn, Within, IsHeld, IsCame, ComesTo}
use Rattle.dp_lean_region.specs.declared.ReadyStage.{ReadyStage}
use Rattle.dp_lean_machine.specs.declared.turning.TurnEnd.TheVariants as end_of
use Rattle.dp_lean_machine.proofs.Settling.{filled_settled}
use Rattle.dp_lean_machine.proofs.Statuses.{still, closed, arrives, closing, voided}

module _ (e : LeanEpoch) (s b : ℕ) (came : Stood) (is : IsCame e s b came) (r : ReadyStage) (runs : RunsIn e s r)
    (fill : ColumnsFill (epoch_marks e) e.key (kept_own e s b) (own_kinds e s b)) where
  open e use {key}

  abbrev k : ℕ
  k = begin_in e b

  abbrev n : ℕ
  n = came.iterations

  -- the code of the frame runs as the stage's
  code_runs : (memory : List ℤ) (queues : ℕ → List Told) (end : LeanEnd) → CodeEnds (epoch_marks e) key (suc s) memory queues end →
      RunEnds r.frame (epoch_marks e) (flat_begin memory queues) end
  code_runs memory queues end ends = (
    ends.0,
    ap (λ (p : Program). lean_flat p r.frame.plan.now (epoch_marks e) r.frame.input.now r.frame.code.now ends.0 (flat_begin memory queues)) runs.program
        ∙ ap (λ (plan : Plan). lean_flat key.program plan (epoch_marks e) r.frame.input.now r.frame.code.now ends.0 (flat_begin memory queues)) runs.plan
        ∙ ap (λ (input : List ℤ). lean_flat key.program key.plan (epoch_marks e) input r.frame.code.now ends.0 (flat_begin memory queues)) runs.input
        ∙ ap (λ (code : List LeanOp). lean_flat key.program key.plan (epoch_marks e) key.input code ends.0 (flat_begin memory queues)) runs.code
        ∙ ends.1,
  )

  left_in_frame : (readers : List Left) (queues : ℕ → List Told) → AreLeft key.program key.plan readers queues →
      AreLeft r.frame.program.now r.frame.plan.now readers queues
  left_in_frame readers queues left = subst (λ (p : Program). AreLeft p r.frame.plan.now readers queues) (sym runs.program)
      (subst (λ (plan : Plan). AreLeft key.program plan readers queues) (sym runs.plan) left)

  left_in_epoch : (readers : List Left) (queues : ℕ → List Told) → AreLeft r.frame.program.now r.frame.plan.now readers queues →
      AreLeft key.program key.plan readers queues
  left_in_epoch readers queues left = subst (λ (plan : Plan). AreLeft key.program plan readers queues) runs.plan
      (subst (λ (p : Program). AreLeft p r.frame.plan.now readers queues) runs.program left)

  module _ {M : Type 0} (cells : M → List ℤ) (j : ℕ) (low : j < n) (old : Turn M) (counts : List ℕ) (at : Within e s b cells n j old counts) where
    abbrev queues : ℕ → List Told
    queues = at.queues.0

    -- what is left of the queues behind this iteration
    abbrev rest : ℕ → List Told
    rest y = flat_map (told_upto (epoch_marks e) key s y) (numbers_from (k + j + 1) (n - suc j)) ++ at.queues.1 y

    here : Arrives (epoch_marks e) key s (k + j)
    here = arrives (epoch_marks e) key s k (size_in e b) came is.stands j low

    brought : Brought (epoch_marks e) key s (k + j) queues rest
    brought =
        let more : n - j ≡ suc (n - suc j) = omega (arith, low) in
        (is.epoch.laws.one_by_one s (k + j) (n - suc j)).told queues at.queues.1
        (subst (λ (i : ℕ). QueuesBring (epoch_marks e) key s (k + j) i queues at.queues.1) more at.queues.3)

    memory_stands : LeanStands (epoch_marks e) key (suc s) (k + j) (cells old.memory)
    memory_stands = at.memory keeps_or_first
      where
        first_or_keeps : (q : Bool) → keeps_memory key.program key.plan (suc s) ≡ q → (keeps_memory key.program key.plan (suc s) ≡ true) ⊎ (j ≡ 0)
        first_or_keeps true q = inl q
        first_or_keeps false q =
            let single = is.epoch.single (suc s) q in
            let few = is.stands.within in
            inr (alone single few)
          where
            alone : e.cap ≤ 1 → n ≤ size_in e b → j ≡ 0
            alone single few = omega (arith, single, few, low)

        keeps_or_first : (keeps_memory key.program key.plan (suc s) ≡ true) ⊎ (j ≡ 0)
        keeps_or_first = first_or_keeps (keeps_memory key.program key.plan (suc s)) refl

    took : (end : LeanEnd) × CodeEnds (epoch_marks e) key (suc s) (cells old.memory) queues end × StepEnds (epoch_marks e) key s (k + j) rest end
    took = is.epoch.laws.steps s (k + j) is.within here (cells old.memory) memory_stands queues rest brought

    none_waits : IsSettled old.teller.own
    none_waits = subst IsSettled (sym at.own) (filled_settled (epoch_marks e) key (kept_own e s b) (own_kinds e s b) (suc s) k j)

    turned_as : (new : Turn M) (result : Turned) → TurnIs cells r.frame old new result → AsTurned cells r.frame (epoch_marks e) old.teller.own took.0 new result
    turned_as new result turns = turns (epoch_marks e) queues took.0 none_waits runs.hidden (left_in_frame old.readers queues at.queues.2)
        (code_runs (cells old.memory) queues took.0 took.1)

    -- the stage's own items are put into its columns
    filled_more : (new : Turn M) (f : LeanTurn) → ArrivesAs (epoch_marks e) key s (k + j) rest f →
        LeavesTurn r.frame (epoch_marks e) old.teller.own cells new f →
        new.teller.own ≡ columns_filled (epoch_marks e) key (kept_own e s b) (own_kinds e s b) (suc s) k (suc j)
    filled_more new f a l =
        l.own
        ∙ ap (λ (p : Program). put_own p r.frame.plan.now r.frame.kinds.own.now f.turn.own old.teller.own) runs.program
        ∙ ap (λ (plan : Plan). put_own key.program plan r.frame.kinds.own.now f.turn.own old.teller.own) runs.plan
        ∙ ap (λ (kinds : List ColumnKind). put_own key.program key.plan kinds f.turn.own old.teller.own) runs.kinds
        ∙ ap (λ (items : List Item). put_own key.program key.plan (own_kinds e s b) items old.teller.own) a.own
        ∙ ap (put_own key.program key.plan (own_kinds e s b) (own_items (epoch_marks e) key (suc s) (k + j))) at.own
        ∙ fill.further (suc s) k j

    counted : (new : Turn M) (f : LeanTurn) (count : ℕ) → ArrivesAs (epoch_marks e) key s (k + j) rest f →
        sum_by steps_in f.turn.own ≡ count → (told : List ℕ) →
        told ≡ counts ++ count ∷ [] → told ≡ map (own_steps (epoch_marks e) key (suc s)) (numbers_from k (suc j))
    counted new f count a sum told more =
        more
        ∙ ap (λ (i : ℕ). counts ++ i ∷ []) (sym sum ∙ ap (sum_by steps_in) a.own)
        ∙ ap (λ (is : List ℕ). is ++ own_steps (epoch_marks e) key (suc s) (k + j) ∷ []) at.counts
        ∙ fill.steps (suc s) k j

    module _ (locals : HasLocals r) (new u : Turn M) (told : List ℕ) (count : ℕ) (settled : Settled cells r new u counts told count) where
      cleared : (f : LeanTurn) → f.turn.cells ≡ cells new.memory → without_locals (epoch_marks e) key f.turn.cells ≡ cells u.memory
      cleared f same =
          ap (clear_locals key.plan.region key.program.vars) same
          ∙ sym (clear_local_cells key.plan.region key.program.vars (cells new.memory))
          ∙ ap (λ (ls : List CellId). clear_cells ls (cells new.memory)) (sym locals_are)
          ∙ sym settled.memory
        where
          locals_are : r.locals.now ≡ local_cells key.plan.region key.program.vars
          locals_are = locals ∙ ap (λ (plan : Plan). local_cells plan.region r.frame.program.now.vars) runs.plan
              ∙ ap (λ (p : Program). local_cells key.plan.region p.vars) runs.program

      behind : (f : LeanTurn) → ArrivesAs (epoch_marks e) key s (k + j) rest f → LeavesTurn r.frame (epoch_marks e) old.teller.own cells new f →
          sum_by steps_in f.turn.own ≡ count → f.turn.closing ≡ false → Within e s b cells n (suc j) u told
      behind f a l sum closing = record {
        memory = λ q. kept_on q;
        queues = (
          f.queues,
          at.queues.1,
          left_in_epoch u.readers f.queues (subst (λ (rs : List Left). AreLeft r.frame.program.now r.frame.plan.now rs f.queues)
              (sym settled.readers) l.queues),
          onward,
        );
        own = settled.own ∙ filled_more new f a l;
        counts = counted new f count a sum told settled.more;
        same = passes;
      }
        where
          next : k + suc j ≡ suc (k + j)
          next = omega arith

          kept_on : (keeps_memory key.program key.plan (suc s) ≡ true) ⊎ (suc j ≡ 0) → LeanStands (epoch_marks e) key (suc s) (k + suc j) (cells u.memory)
          kept_on (inl q) = subst (λ (i : ℕ). LeanStands (epoch_marks e) key (suc s) i (cells u.memory)) (sym next)
              (subst (LeanStands (epoch_marks e) key (suc s) (suc (k + j))) (cleared f l.memory) (a.next q))
          kept_on (inr q) = absurd (omega (arith, q))

          onward : QueuesBring (epoch_marks e) key s (k + suc j) (n - suc j) f.queues at.queues.1
          onward y read =
              let same : k + j + 1 ≡ k + suc j = omega arith in
              a.left y read ∙ ap (λ (i : ℕ). flat_map (told_upto (epoch_marks e) key s y) (numbers_from i (n - suc j)) ++ at.queues.1 y) same

          passes : (i : ℕ) → i < suc j → PassesOn e s b i
          passes i less = by (cases_lt i j)
            where
              by : (i < j) ⊎ (j ≤ i) → PassesOn e s b i
              by (inl before) = at.same i before
              by (inr not) =
                  let it : i ≡ j = omega (arith, less, not) in
                  subst (PassesOn e s b) (sym it)
                  (a.status ∙ ap (net_status_of (at_stage (epoch_marks e) key s (k + j)).packet.status) closing
                  ∙ still (at_stage (epoch_marks e) key s (k + j)).packet.status)

      ended : (x : Stood) → x.iterations ≡ suc j → IterationsStand (epoch_marks e) key (suc s) k (size_in e b) x → (f : LeanTurn) →
          ArrivesAs (epoch_marks e) key s (k + j) rest f →
          LeavesTurn r.frame (epoch_marks e) old.teller.own cells new f → sum_by steps_in f.turn.own ≡ count → IsHeld e s b u.teller.own told x
      ended x many stands f a l sum = record {
        stands = stands;
        holds = subst (λ (i : ℕ). HoldsTold (epoch_marks e) key (kept_own e s b) (suc s) k i (record { columns = u.teller.own; steps = told })) (sym many)
            (subst (HoldsTold (epoch_marks e) key (kept_own e s b) (suc s) k (suc j)) (sym all) (fill.holds (suc s) k (suc j) (omega arith)));
      }
        where
          held : Columned → List ℕ → StageColumns
          held columns steps = record { columns = columns; steps = steps }

          all : held u.teller.own told ≡ held (columns_filled (epoch_marks e) key (kept_own e s b) (own_kinds e s b) (suc s) k (suc j))
              (map (own_steps (epoch_marks e) key (suc s)) (numbers_from k (suc j)))
          all = ap (λ (c : Columned). held c told) (settled.own ∙ filled_more new f a l)
              ∙ ap (held (columns_filled (epoch_marks e) key (kept_own e s b) (own_kinds e s b) (suc s) k (suc j)))
              (counted new f count a sum told settled.more)

      done : (end : LeanEnd) → StepEnds (epoch_marks e) key s (k + j) rest end → (f : LeanTurn) → end ≡ Arrived f →
          ArrivesAs (epoch_marks e) key s (k + j) rest f
      done end ends f same = subst (StepEnds (epoch_marks e) key s (k + j) rest) same ends

      pub goes : TurnIs cells r.frame old new (turned.Done false count) → ComesTo e s b cells came j u told end_of.Goes
      goes turns =
          let t = turned_as new (turned.Done false count) turns in
          behind t.0 (done took.0 took.2 t.0 t.1) t.4 t.3 t.2

      pub closes : TurnIs cells r.frame old new (turned.Done true count) → ComesTo e s b cells came j u told end_of.Closes
      closes turns =
          let t = turned_as new (turned.Done true count) turns in
          let a = done took.0 took.2 t.0 t.1 in (
            ended (record { iterations = suc j; ends = NetClosing }) refl
                (closing (epoch_marks e) key s k (size_in e b) came is.stands j low at.same
                (a.status ∙ ap (net_status_of (at_stage (epoch_marks e) key s (k + j)).packet.status) t.2
                ∙ closed (at_stage (epoch_marks e) key s (k + j)).packet.status here)) t.0 a t.4 t.3,
            λ q. absurd (cc q),
          )

    -- a turn that broke off told something behind what was told before
    pub voids : (new : Turn M) → Keeps old new → TurnIs cells r.frame old new turned.Void → ComesTo e s b cells came j new counts end_of.Void
    voids new keeps turns = (
      record {
        stands = voided (epoch_marks e) key s k (size_in e b) came is.stands j low at.same
            (subst (StepEnds (epoch_marks e) key s (k + j) rest) (turned_as new turned.Void turns) took.2);
        holds = fill.grown (suc s) k j (record { columns = columns_filled (epoch_marks e) key (kept_own e s b) (own_kinds e s b) (suc s) k j; steps = counts })
            (record { columns = new.teller.own; steps = counts })
            (subst (λ (is : List ℕ). HoldsTold (epoch_marks e) key (kept_own e s b) (suc s) k j
            (record { columns = columns_filled (epoch_marks e) key (kept_own e s b) (own_kinds e s b) (suc s) k j; steps = is }))
            (sym at.counts) (fill.holds (suc s) k j (omega arith)))
            (subst (λ (c : Columned). QueuesGrown c new.teller.own) at.own grown)
            refl;
      },
      λ q. absurd (cc q),
    )
      where
        grown : QueuesGrown old.teller.own new.teller.own
        grown = record {
          told = λ place queue is. (let g = keeps.own.told place queue is in (queue ++ g.0, g.1, (g.0, refl)));
          loads = λ place queue is. (let g = keeps.own.loads place queue is in (queue ++ g.0, g.1, (g.0, refl)));
        }
