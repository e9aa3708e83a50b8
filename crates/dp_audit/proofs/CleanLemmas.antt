-- The next iteration is clean, and was committed.
use Rattle.std.proofs.Common.{◌≡◌, ◌⊎◌, ◌&&◌, inl, inr, refl, sym, ap, ◌∙◌, subst, ℕ, ◌+◌, ◌<◌, Bool, true, false, not, cond, nat_lt, List, [], ◌++◌, ℤ, pos}
use Rattle.std.proofs.Common.{length, get_or, map, Option, Some, None}
use Rattle.std.specs.Ordering.{int_eq}
use Rattle.std.proofs.lemmas.Bool.{both_ways, cases_Bool}
use Rattle.dp_tree.specs.declared.Program.{Program}
use Rattle.dp_plan.specs.declared.Plan.{Plan}
use Rattle.dp_plan.specs.Written.{has}
use Rattle.dp_semantics.specs.Recovery.{is_recovered}
use Rattle.dp_semantics.specs.Seen.{is_local_at}
use Rattle.dp_semantics.specs.EpochKey.{EpochKey}
use Rattle.dp_semantics.specs.EpochVerdicts.{Carried, Commit, verdict_at}
use Rattle.dp_net.specs.NetVerdicts.{SaysTheSame}
use Rattle.dp_log.specs.declared.SetOf.{SetOf}
use Rattle.dp_meaning.specs.declared.ends.IterEnd.TheVariants as iter_end
use Rattle.dp_meaning.specs.MachineState.{MachineState}
use Rattle.dp_meaning.specs.IterationRun.{IterationRun}
use Rattle.dp_meaning.specs.NextIteration.{end_of_iteration}
use Rattle.dp_commit.specs.CommittedState.{CarriesNext, CommittedState, region_run}
use Rattle.dp_pipeline.specs.Coming.{Coming}
use Rattle.dp_epoch.specs.declared.account.Account.{Account}
use Rattle.dp_epoch.specs.Accounts.{CountsClean}
use Rattle.dp_epoch.specs.declared.ends.RegionEnd.TheVariants as region_end
use Rattle.dp_epoch.specs.Applied.{Applied}
use Rattle.dp_epoch.specs.InEpoch.{InEpoch}
use Rattle.dp_epoch.specs.Progress.{RegionDone}
use Rattle.dp_epoch.specs.Remade.{iteration_end}
use Rattle.dp_epoch.proofs.EpochLemmas.{epoch_closes, epoch_goes, may_commit}
use Rattle.dp_epoch.proofs.Judged.{clean_case}
use Rattle.dp_audit.specs.declared.known.Known.{Known}
use Rattle.dp_audit.specs.declared.runner.Runner.{Runner}
use Rattle.dp_audit.specs.Copy.{IsCopy, changed_but, changes_but}
use Rattle.dp_audit.specs.Stored.{stored_cell}
use Rattle.dp_audit.specs.Runs.{RunnerIsKept, CommitsNext}
use Rattle.dp_audit.specs.Groups.{Makes}
use Rattle.dp_audit.proofs.CopyLemmas.{unchanged}
use Rattle.dp_audit.proofs.StoreLemmas.{same_elsewhere}
use Rattle.dp_audit.proofs.IterationMade.{begun_or_spent, begun_with}
use Rattle.dp_audit.proofs.RunnerLemmas.{kept_next, progress_size, stands_size}
use Rattle.dp_audit.proofs.GroupLemmas.{begun_then, behind_ended, copy_size, makes, one_more}

module _ (p : Program) (input : List ℤ) (first : MachineState) (r : Runner) (key : EpochKey) (k : RunnerIsKept p key.plan input first r) (n : ℕ)
    (e : InEpoch key n first r.ledger.committed r.ledger.account)
    (clean : Carried) (gives : SaysTheSame key (verdict_at key n) (Commit clean)) where
  abbrev c : CommittedState
  c = r.ledger.committed

  not_again : false ≡ is_recovered p key.plan (region_run first) c.count
  not_again = sym (ap (λ (x : Program). is_recovered x key.plan (region_run first) c.count) (sym k.program_is)
      ∙ ap not (clean_case key n first c r.ledger.account e clean gives).clean)

  module _ (new : CommittedState) (a : Applied clean r.ledger.committed new) (more : Account)
      (told : CountsClean r.ledger.committed new r.ledger.account more) where
    count_is : new.count ≡ c.count + 1
    count_is = ap (λ (x : CommittedState). x.count) a.rest

    -- the epoch goes on
    module _ (going : clean.closing ≡ false) where
      call_next : IterationRun c.region a.turns c.machine new.machine [] clean.prints (iteration_end None)
      call_next = subst (λ (b : Bool). IterationRun c.region a.turns c.machine new.machine [] clean.prints (end_of_iteration b)) going a.call

      goes : InEpoch key (n + 1) first new more
      goes = epoch_goes key n first c r.ledger.account e clean gives new a more told going

      pub next_size : length r.known.cells ≡ length new.machine.config.cells
      next_size = copy_size p key.plan input first r k e.progress new.machine.config.cells (progress_size key.plan first new more goes.progress)

      same_there : (cell : ℕ) → has cell r.known.locals ≡ false → has cell (map stored_cell clean.stores) ≡ false →
          get_or r.known.cells cell (pos 0) ≡ get_or new.machine.config.cells cell (pos 0)
      same_there cell apart none =
          let local : is_local_at key.program key.plan cell ≡ false = ap (λ (x : Program). is_local_at x key.plan cell) (e.key_is.program ∙ k.program_is)
          ∙ sym (k.locals cell) ∙ apart in
          k.copy.same cell apart ∙ sym (same_elsewhere key n first c r.ledger.account e clean gives new more goes cell local none)

      -- what has changed was stored
      pub among : (stored : List ℕ) → stored ≡ map stored_cell clean.stores → (cell : ℕ) → changed_but r.known.locals r.known.cells new.machine.config.cells
          cell ≡ true → has cell stored ≡ true
      among stored is cell t = elim (cases_Bool (has cell stored)) [
        | inl there ↦ there
        | inr gone ↦ elim (cases_Bool (has cell r.known.locals)) [
          | inl local ↦ absurd (both_ways (changed_but r.known.locals r.known.cells new.machine.config.cells cell)
              (ap (λ (b : Bool). not b && not (int_eq (get_or r.known.cells cell (pos 0)) (get_or new.machine.config.cells cell (pos 0)))) local) t)
          | inr apart ↦
              absurd (both_ways (changed_but r.known.locals r.known.cells new.machine.config.cells cell)
              (unchanged r.known.locals new.machine.config.cells r.known.cells next_size cell (same_there cell apart (ap (has cell) (sym is) ∙ gone))) t)
        ]
      ]

      pub next_makes : (waiting : List ℤ) → waiting ≡ r.ledger.waiting ++ clean.prints → (known : Known) → known.locals ≡ r.known.locals →
          IsCopy known new.machine.config.cells → (number : ℕ) → number ≡ r.ledger.committed.count →
          (sets : List SetOf) → sets ≡ changes_but r.known.locals r.known.cells new.machine.config.cells → (w : Coming) → w.key ≡ key → w.given ≡ n + 1 →
          Makes p key.plan input first r.ledger.committed
          (record { epochs = r.epochs; ledger = record { committed = new; account = more; waiting = [] }; known = known; verdicts = Some w })
          (record { iteration = number; again = false; sets = sets; prints = waiting; end = iter_end.Next })
      next_makes waiting waits known locals copy number number_is sets sets_is w same given_is =
          makes p key.plan input first r k e.progress new.machine a.turns clean.prints None call_next after number false sets waiting
          number_is not_again sets_is
          (waits ∙ ap (λ (xs : List ℤ). xs ++ clean.prints) k.none_waits) (record {
            kept = kept_next p key.plan input first r k (record { committed = new; account = more; waiting = [] }) known (Some w) refl
                (ap (λ (x : Account). x.why) told.account) locals copy;
            progress = goes.progress;
            count = count_is ∙ by (begun_or_spent key.plan first c r.ledger.account e.progress new.machine a.turns clean.prints None call_next);
            epoch = record {
              plan_is = ap (λ (x : EpochKey). x.plan) same;
              epoch = subst (λ (x : EpochKey). InEpoch x w.given first new more) (sym same) (subst
                  (λ (m : ℕ). InEpoch key m first new more) (sym given_is) goes);
            };
          })
        where
          after : Runner
          after = record { epochs = r.epochs; ledger = record { committed = new; account = more; waiting = [] }; known = known; verdicts = Some w }

          by : (c.machine.steps < c.machine.fuel) ⊎ (iteration_end None ≡ iter_end.Fuel) →
              c.count + 1 ≡ c.count + cond (nat_lt c.machine.steps c.machine.fuel) 1 0
          by (inl h) = one_more c h
          by (inr f) = absurd (cc f)

    -- the region is left
    module _ (closing : clean.closing ≡ true) where
      call_closed : IterationRun c.region a.turns c.machine new.machine [] clean.prints (iteration_end (Some region_end.Closed))
      call_closed = subst (λ (b : Bool). IterationRun c.region a.turns c.machine new.machine [] clean.prints (end_of_iteration b)) closing a.call

      closes : RegionDone key.plan first new more region_end.Closed
      closes = epoch_closes key n first c r.ledger.account e clean gives new a more told closing

      pub closed_size : length r.known.cells ≡ length new.machine.config.cells
      closed_size = copy_size p key.plan input first r k e.progress new.machine.config.cells
          (stands_size first.program new.machine.config closes.ran.made.stands)

      pub closed_makes : (waiting : List ℤ) → waiting ≡ r.ledger.waiting ++ clean.prints → (known : Known) → (number : ℕ) → number ≡ r.ledger.committed.count →
          (sets : List SetOf) → sets ≡ changes_but r.known.locals r.known.cells new.machine.config.cells → (verdicts : Option Coming) →
          Makes p key.plan input first r.ledger.committed
          (record { epochs = r.epochs; ledger = record { committed = new; account = more; waiting = [] }; known = known; verdicts = verdicts })
          (record { iteration = number; again = false; sets = sets; prints = waiting; end = iter_end.Closed })
      closed_makes waiting waits known number number_is sets sets_is verdicts =
          makes p key.plan input first r k e.progress new.machine a.turns clean.prints (Some region_end.Closed) call_closed after number false sets waiting
          number_is not_again sets_is
          (waits ∙ ap (λ (xs : List ℤ). xs ++ clean.prints) k.none_waits)
          (behind_ended p key.plan input first (begun_then c) after region_end.Closed closes (begun_with key.plan first c r.ledger.account e.progress
          new.machine a.turns clean.prints region_end.Closed call_closed))
        where
          after : Runner
          after = record { epochs = r.epochs; ledger = record { committed = new; account = more; waiting = [] }; known = known; verdicts = verdicts }

-- .. as the last of the verdicts says
module _ (p : Program) (plan : Plan) (input : List ℤ) (first : MachineState) (r : Runner) (w : Coming) (clean : Carried)
    (j : CommitsNext p plan input first r w clean) where
  kept_so : RunnerIsKept p w.key.plan input first r
  kept_so = subst (λ (x : Plan). RunnerIsKept p x input first r) (sym j.under_way.plan_is) j.kept

  pub may_be : CarriesNext r.ledger.committed clean
  may_be = may_commit w.key j.before first r.ledger.committed r.ledger.account j.under_way.epoch clean j.verdict

  module _ (new : CommittedState) (a : Applied clean r.ledger.committed new) (more : Account)
      (told : CountsClean r.ledger.committed new r.ledger.account more) where
    pub judged_size : (b : Bool) → clean.closing ≡ b → length r.known.cells ≡ length new.machine.config.cells
    judged_size false going = next_size p input first r w.key kept_so j.before j.under_way.epoch clean j.verdict new a more told going
    judged_size true closing = closed_size p input first r w.key kept_so j.before j.under_way.epoch clean j.verdict new a more told closing

    module _ (waiting : List ℤ) (waits : waiting ≡ r.ledger.waiting ++ clean.prints) (known : Known) (number : ℕ)
        (number_is : number ≡ r.ledger.committed.count) (sets : List SetOf)
        (sets_is : sets ≡ changes_but r.known.locals r.known.cells new.machine.config.cells) where
      pub judged_next : clean.closing ≡ false → known.locals ≡ r.known.locals → IsCopy known new.machine.config.cells →
          Makes p plan input first r.ledger.committed
          (record { epochs = r.epochs; ledger = record { committed = new; account = more; waiting = [] }; known = known; verdicts = Some w })
          (record { iteration = number; again = false; sets = sets; prints = waiting; end = iter_end.Next })
      judged_next going locals copy =
          subst (λ (x : Plan). Makes p x input first r.ledger.committed
          (record { epochs = r.epochs; ledger = record { committed = new; account = more; waiting = [] }; known = known; verdicts = Some w })
          (record { iteration = number; again = false; sets = sets; prints = waiting; end = iter_end.Next })) j.under_way.plan_is
          (next_makes p input first r w.key kept_so j.before j.under_way.epoch clean j.verdict new a more told going waiting waits known locals copy number
          number_is sets sets_is w refl j.given)

      pub judged_closed : clean.closing ≡ true → (verdicts : Option Coming) →
          Makes p plan input first r.ledger.committed
          (record { epochs = r.epochs; ledger = record { committed = new; account = more; waiting = [] }; known = known; verdicts = verdicts })
          (record { iteration = number; again = false; sets = sets; prints = waiting; end = iter_end.Closed })
      judged_closed closing verdicts =
          subst (λ (x : Plan). Makes p x input first r.ledger.committed
          (record { epochs = r.epochs; ledger = record { committed = new; account = more; waiting = [] }; known = known; verdicts = verdicts })
          (record { iteration = number; again = false; sets = sets; prints = waiting; end = iter_end.Closed })) j.under_way.plan_is
          (closed_makes p input first r w.key kept_so j.before j.under_way.epoch clean j.verdict new a more told closing waiting waits known number number_is
          sets sets_is verdicts)

    pub judged_among : clean.closing ≡ false → (stored : List ℕ) → stored ≡ map stored_cell clean.stores → (cell : ℕ) →
        changed_but r.known.locals r.known.cells new.machine.config.cells cell ≡ true → has cell stored ≡ true
    judged_among going stored is cell t = among p input first r w.key kept_so j.before j.under_way.epoch clean j.verdict new a more told going stored is cell t
