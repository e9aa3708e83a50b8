-- What is told of the next iteration, and where the region stands behind it.
use Rattle.std.proofs.Common.{◌≡◌, ◌⊎◌, inl, inr, refl, sym, ap, ◌∙◌, subst, ℕ, ◌+◌, ◌<◌, Bool, true, cond, nat_lt, lt-ltb, List, [], ◌++◌, ℤ, length, Option}
use Rattle.std.proofs.Common.{Some, None}
use Rattle.dp_tree.specs.declared.Program.{Program}
use Rattle.dp_tree.specs.Trace.{Run, start_cells}
use Rattle.dp_tree.specs.Iteration.{begun_count, memory_after}
use Rattle.dp_plan.specs.declared.Plan.{Plan}
use Rattle.dp_semantics.specs.Recovery.{is_recovered}
use Rattle.dp_log.specs.declared.SetOf.{SetOf}
use Rattle.dp_log.specs.Changes.{changes_between, changes_of, memory_behind}
use Rattle.dp_meaning.specs.declared.ends.IterEnd.TheVariants as iter_end
use Rattle.dp_meaning.specs.MachineState.{MachineState}
use Rattle.dp_meaning.specs.IterationRun.{IterationRun}
use Rattle.dp_commit.specs.CommittedState.{CommittedState, region_run}
use Rattle.dp_epoch.specs.declared.account.Account.{Account}
use Rattle.dp_epoch.specs.declared.ends.RegionEnd.{RegionEnd}
use Rattle.dp_epoch.specs.declared.ends.RegionEnd.TheVariants as region_end
use Rattle.dp_epoch.specs.InEpoch.{AfterRecovery}
use Rattle.dp_epoch.specs.Progress.{Progress, RegionDone}
use Rattle.dp_epoch.specs.Remade.{Remade, iteration_end}
use Rattle.dp_epoch.proofs.Here.{memory_is}
use Rattle.dp_audit.specs.declared.known.Known.{Known}
use Rattle.dp_audit.specs.declared.runner.Runner.{Runner}
use Rattle.dp_audit.specs.Copy.{IsCopy, changes_but}
use Rattle.dp_audit.specs.Runs.{InItsEpoch, RunnerIsKept, Unclean}
use Rattle.dp_audit.specs.Groups.{Makes, StandsBehind}
use Rattle.dp_audit.proofs.ListedChanges.{listed_changes}
use Rattle.dp_audit.proofs.IterationMade.{IsMade, begun_or_spent, begun_with, iteration_made}
use Rattle.dp_audit.proofs.RunnerLemmas.{kept_next, progress_size, stands_size}

-- the iterations that are begun with the next one
abbrev pub begun_then : CommittedState → ℕ
begun_then c = c.count + cond (nat_lt c.machine.steps c.machine.fuel) 1 0

pub one_more : (c : CommittedState) → c.machine.steps < c.machine.fuel → c.count + 1 ≡ c.count + cond (nat_lt c.machine.steps c.machine.fuel) 1 0
one_more c h = ap (λ (b : Bool). c.count + cond b 1 0) (sym (lt-ltb c.machine.steps c.machine.fuel h))

module _ (p : Program) (plan : Plan) (input : List ℤ) (first : MachineState) where
  pub behind_ended : (n : ℕ) (next : Runner) (end : RegionEnd) → RegionDone plan first next.ledger.committed next.ledger.account end →
      begun_count (region_run first) plan.region ≡ n → StandsBehind p plan input first n next (iteration_end (Some end))
  behind_ended n next region_end.Closed d b = record { done = d; begun = b }
  behind_ended n next (region_end.Fault fault) d b = record { done = d; begun = b }
  behind_ended n next region_end.Fuel d b = record { done = d; begun = b }

  module _ (r : Runner) (k : RunnerIsKept p plan input first r) (g : Progress plan first r.ledger.committed r.ledger.account) where
    abbrev c : CommittedState
    c = r.ledger.committed

    abbrev run : Run
    run = region_run first

    -- the copy is as long as each memory of the run
    pub copy_size : (cells : List ℤ) → length cells ≡ length (start_cells first.program.vars) → length r.known.cells ≡ length cells
    copy_size cells e = k.copy.size ∙ progress_size plan first c r.ledger.account g ∙ sym e

    -- what was listed is what the iteration changed
    pub sets_are : (cells : List ℤ) → cells ≡ memory_behind (region_run first) plan.region r.ledger.committed.count → (sets : List SetOf) →
        sets ≡ changes_but r.known.locals r.known.cells cells →
        sets ≡ changes_of p plan (region_run first) r.ledger.committed.count
    sets_are cells memory sets is =
        is ∙ listed_changes p plan r.known.locals k.locals r.known.cells c.machine.config.cells cells k.copy.same
        ∙ ap (λ (before : List ℤ). changes_between p plan before cells) (memory_is plan first c r.ledger.account g)
        ∙ ap (changes_between p plan (memory_after run plan.region c.count)) memory

    -- The iteration was made by this call.
    module _ (m : MachineState) (turns : ℕ) (printed : List ℤ) (end : Option RegionEnd)
        (call : IterationRun r.ledger.committed.region turns r.ledger.committed.machine m [] printed (iteration_end end)) where
      made : IsMade plan first c r.ledger.account g m turns printed (iteration_end end)
      made = iteration_made plan first c r.ledger.account g m turns printed end call

      pub makes : (next : Runner) (number : ℕ) (again : Bool) (sets : List SetOf) (told : List ℤ) → number ≡ r.ledger.committed.count →
          again ≡ is_recovered p plan (region_run first) r.ledger.committed.count →
          sets ≡ changes_but r.known.locals r.known.cells m.config.cells → told ≡ printed → StandsBehind p plan input first (begun_then r.ledger.committed) next
          (iteration_end end) →
          Makes p plan input first r.ledger.committed next (record { iteration = number; again = again; sets = sets; prints = told; end = iteration_end end })
      makes next number again sets told number_is again_is sets_is told_is behind = record {
        number = number_is;
        again = again_is;
        sets = sets_are m.config.cells made.memory sets sets_is;
        prints_are = λ h. told_is ∙ made.prints_are h;
        over = made.over;
        left = made.left;
        begun = begun_or_spent plan first c r.ledger.account g m turns printed end call;
        behind = behind;
      }

    -- It was executed again.
    module _ (printed : List ℤ) (new : CommittedState) (more : Account) (known : Known) (locals : known.locals ≡ r.known.locals)
        (copy : IsCopy known new.machine.config.cells) (none : r.verdicts ≡ None) (asked : more.why ≡ r.ledger.account.why) where
      abbrev after : Runner
      after = record { epochs = r.epochs; ledger = record { committed = new; account = more; waiting = [] }; known = known; verdicts = r.verdicts }

      pub behind_again : (end : Option RegionEnd) → Remade r.ledger.committed new printed (iteration_end end) → AfterRecovery plan first new more end →
          StandsBehind p plan input first (begun_then r.ledger.committed)
          (record { epochs = r.epochs; ledger = record { committed = new; account = more; waiting = [] }; known = known; verdicts = r.verdicts })
          (iteration_end end)
      behind_again None s a = record {
        kept = kept_next p plan input first r k (record { committed = new; account = more; waiting = [] }) known r.verdicts refl asked locals copy;
        progress = a.progress;
        count = ap (λ (x : CommittedState). x.count) s.rest ∙ by (begun_or_spent plan first c r.ledger.account g new.machine s.turns printed None s.call);
        epoch = subst (InItsEpoch plan first (record { committed = new; account = more; waiting = [] })) (sym none) a;
      }
        where
          by : (c.machine.steps < c.machine.fuel) ⊎ (iteration_end None ≡ iter_end.Fuel) →
              c.count + 1 ≡ c.count + cond (nat_lt c.machine.steps c.machine.fuel) 1 0
          by (inl h) = one_more c h
          by (inr e) = absurd (cc e)
      behind_again (Some end) s a = behind_ended (begun_then c) after end a (begun_with plan first c r.ledger.account g new.machine s.turns printed end s.call)

  -- the memory has as many cells behind it
  pub recovered_size : (new : CommittedState) (more : Account) (end : Option RegionEnd) → AfterRecovery plan first new more end →
      length new.machine.config.cells ≡ length (start_cells first.program.vars)
  recovered_size new more None a = progress_size plan first new more a.progress
  recovered_size new more (Some end) a = stands_size first.program new.machine.config a.ran.made.stands

  module _ (r : Runner) (u : Unclean p plan input first r) (printed : List ℤ) (new : CommittedState) (more : Account) (end : Option RegionEnd)
      (s : Remade r.ledger.committed new printed (iteration_end end)) (a : AfterRecovery plan first new more end) where
    pub again_size : length r.known.cells ≡ length new.machine.config.cells
    again_size = copy_size r u.kept u.unclean.progress new.machine.config.cells (recovered_size new more end a)

    pub again_makes : more.why ≡ r.ledger.account.why → (waiting : List ℤ) → waiting ≡ r.ledger.waiting ++ printed → (known : Known) →
        known.locals ≡ r.known.locals → IsCopy known new.machine.config.cells → (number : ℕ) → number ≡ r.ledger.committed.count →
        (sets : List SetOf) → sets ≡ changes_but r.known.locals r.known.cells new.machine.config.cells →
        Makes p plan input first r.ledger.committed
        (record { epochs = r.epochs; ledger = record { committed = new; account = more; waiting = [] }; known = known; verdicts = r.verdicts })
        (record { iteration = number; again = true; sets = sets; prints = waiting; end = iteration_end end })
    again_makes asked waiting waits known locals copy number number_is sets sets_is =
        makes r u.kept u.unclean.progress new.machine s.turns printed end s.call
        (record { epochs = r.epochs; ledger = record { committed = new; account = more; waiting = [] }; known = known; verdicts = r.verdicts })
        number true sets waiting number_is (sym (ap (λ (x : Program). is_recovered x plan (region_run first) r.ledger.committed.count) (sym u.kept.program_is)
        ∙ u.unclean.again)) sets_is (waits ∙ ap (λ (xs : List ℤ). xs ++ printed) u.kept.none_waits)
        (behind_again r u.kept u.unclean.progress printed new more known locals copy u.no_verdicts asked end s a)
