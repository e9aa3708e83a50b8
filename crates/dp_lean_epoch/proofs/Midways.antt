-- A stage goes from iteration to iteration of a batch.
use Rattle.dp_semantics.proofs.Names.{◌≡◌, inl, inr, sym, ap, ◌∙◌, subst, arith, cases_eq, ℕ, suc, ◌+◌, Bool, true, List, [], ◌∷◌, ◌++◌, ℤ, map, sum_by}
use Rattle.dp_semantics.proofs.Names.{flat_map, Stmt, fits_plan, first_site}
use Rattle.dp_tree.specs.Inlined.{IsInlined}
use Rattle.dp_tree.specs.Numbering.{numbers_from}
use Rattle.dp_semantics.specs.EpochKey.{EpochKey}
use Rattle.dp_net.specs.NetItems.{Marks, Item}
use Rattle.dp_net.specs.Hidden.{marks_of}
use Rattle.dp_lean.specs.Queues.{Told, steps_in}
use Rattle.dp_lean.specs.LeanTurn.{LeanTurn, LeanEnd, Arrived, BrokenOff}
use Rattle.dp_columns.specs.declared.ColumnKind.{ColumnKind}
use Rattle.dp_columns.specs.Columned.{Columned}
use Rattle.dp_columns.specs.Telling.{put_items}
use Rattle.dp_lean_epoch.specs.Own.{at_stage, own_items, own_steps, told_upto}
use Rattle.dp_lean_epoch.specs.Coming.{LeanStands}
use Rattle.dp_lean_epoch.specs.Holding.{Kept, StageColumns, HoldsTold, HavePlaces, columns_filled}
use Rattle.dp_lean_epoch.specs.Steps.{ArrivesAs, StepEnds, without_locals}
use Rattle.dp_lean_epoch.specs.Laws.{ColumnsFill}
use Rattle.dp_lean_epoch.specs.Midway.{with_turn, Midway, Further, GoesFurther, MidwaySteps}
use Rattle.dp_lean_epoch.proofs.Filling.{columns_fill}
use Rattle.dp_lean_epoch.proofs.Queueing.{come_one_by_one}
use Rattle.dp_lean_epoch.proofs.Stepping.{stage_steps}
use Rattle.dp_lean_epoch.proofs.WorkersOn.{workers_go_on}

module _ (key : EpochKey) (inlined : IsInlined key.program) (fits : fits_plan key.program key.plan ≡ true) (pays : List Stmt → Bool) (kept : Kept)
    (kinds : List ColumnKind) where
  open key use {program, plan}

  abbrev m : Marks
  m = marks_of program plan pays

  module _ (places : HavePlaces m key kept kinds) (s k i j : ℕ) (queues more : ℕ → List Told) (memory : List ℤ) (c : StageColumns)
      (st : Midway m key kept kinds s k i (suc j) queues more memory c) where
    fill : ColumnsFill m key kept kinds
    fill = columns_fill m key kept kinds places

    -- what is left of the queues behind the next iteration
    abbrev behind : ℕ → List Told
    behind y = flat_map (told_upto m key s y) (numbers_from ((k + i) + 1) j) ++ more y

    module _ (f : LeanTurn) (a : ArrivesAs m key s (k + i) behind f) where
      columns_next : (with_turn m key kept kinds c f).columns ≡ columns_filled m key kept kinds (suc s) k (suc i)
      columns_next =
          ap (λ (own : List Item). put_items (first_site program plan) kept.told kept.loads own c.columns) a.own
          ∙ ap (put_items (first_site program plan) kept.told kept.loads (own_items m key (suc s) (k + i))) st.columns
          ∙ (let fs = fill in fs.further (suc s) k i)

      steps_next : (with_turn m key kept kinds c f).steps ≡ map (own_steps m key (suc s)) (numbers_from k (suc i))
      steps_next = ap (λ (own : List Item). c.steps ++ sum_by steps_in own ∷ []) a.own
          ∙ ap (λ (ns : List ℕ). ns ++ own_steps m key (suc s) (k + i) ∷ []) st.steps ∙ (let fs = fill in fs.steps (suc s) k i)

      held : HoldsTold m key kept (suc s) k (suc i) (with_turn m key kept kinds c f)
      held =
          let fs = fill in
          subst (λ (cs : Columned). HoldsTold m key kept (suc s) k (suc i) (record { columns = cs; steps = (with_turn m key kept kinds c f).steps }))
          (sym columns_next)
          (subst (λ (ns : List ℕ). HoldsTold m key kept (suc s) k (suc i) (record { columns = columns_filled m key kept kinds (suc s) k (suc i); steps = ns }))
          (sym steps_next)
          (fs.holds (suc s) k (suc i) (omega arith)))

      one_more : suc (k + i) ≡ k + suc i
      one_more = omega arith

      further : Further m key kept kinds s k i j more c f
      further = record {
        status = a.status;
        holds = held;
        memory = λ keeps. subst (λ (n : ℕ). LeanStands m key (suc s) n (without_locals m key f.turn.cells)) one_more (a.next keeps);
        onward = λ goes keeps. record {
          onward = λ h low. elim (cases_eq h i) [
            | inl here ↦ ap (λ (n : ℕ). (at_stage m key (suc s) (k + n)).packet.status) here ∙ goes
            | inr other ↦ st.onward h (omega (arith, low, other))
          ];
          coming = λ y read. a.left y read ∙ (let same : (k + i) + 1 ≡ k + suc i = omega arith in ap
              (λ (n : ℕ). flat_map (told_upto m key s y) (numbers_from n j) ++ more y) same);
          stands = subst (λ (n : ℕ). LeanStands m key (suc s) n (without_locals m key f.turn.cells)) one_more (a.next keeps);
          columns = columns_next;
          steps = steps_next;
        };
      }

    ends_further : (end : LeanEnd) → StepEnds m key s (k + i) behind end → GoesFurther m key kept kinds s k i j more c end
    ends_further (Arrived f) a = further f a
    ends_further BrokenOff void = void

  pub midway_steps : HavePlaces m key kept kinds → MidwaySteps m key kept kinds
  midway_steps places s k i j high alive queues more memory c st =
      let come = come_one_by_one m key s (k + i) j in
      let r = stage_steps key inlined fits pays (workers_go_on key inlined fits pays) s (k + i) high alive memory st.stands queues
      (behind places s k i j queues more memory c st) (come.told queues more st.coming) in
      (r.0, r.1, ends_further places s k i j queues more memory c st r.0 r.2)
