-- Where the next iteration is judged, and what is given of it.
use Rattle.std.proofs.Common.{◌≡◌, ◌⊎◌, inl, inr, refl, sym, ap, ◌∙◌, subst, ℕ, suc, ◌+◌, ◌<◌, ◌≤◌, Bool, true, false, cond, nat_lt, lt-ltb, le-ltb, List, ℤ}
use Rattle.std.proofs.Common.{Some, None, arith}
use Rattle.dp_base.specs.declared.Cause.{Cause}
use Rattle.dp_tree.specs.declared.Program.{Program}
use Rattle.dp_tree.specs.Trace.{prints}
use Rattle.dp_tree.specs.Iteration.{has_ended, is_begun, is_closing, iteration, start}
use Rattle.dp_tree.proofs.IterationLaws.{iterations_adjoin}
use Rattle.dp_plan.specs.declared.Plan.{Plan}
use Rattle.dp_semantics.specs.Recovery.{is_recovered}
use Rattle.dp_semantics.specs.EpochKey.{EpochKey}
use Rattle.dp_semantics.specs.EpochVerdicts.{Again, Carried, Commit, verdict_at}
use Rattle.dp_log.specs.Changes.{changes_of}
use Rattle.dp_meaning.specs.declared.ends.IterEnd.TheVariants as iter_end
use Rattle.dp_meaning.specs.MachineState.{MachineState, fuel_left}
use Rattle.dp_commit.specs.CommittedState.{CommittedState, region_run, steps_of_first}
use Rattle.dp_pipeline.specs.Coming.{Coming}
use Rattle.dp_net.specs.NetVerdicts.{SaysTheSame}
use Rattle.dp_epoch.specs.Applied.{steps_left}
use Rattle.dp_epoch.specs.declared.ends.RegionEnd.TheVariants as region_end
use Rattle.dp_epoch.specs.InEpoch.{InEpoch, IsUnclean}
use Rattle.dp_epoch.proofs.EpochLemmas.{unclean_here}
use Rattle.dp_epoch.proofs.Here.{starts_here, steps_are}
use Rattle.dp_audit.specs.declared.group.Group.{Group}
use Rattle.dp_audit.specs.declared.runner.Runner.{Runner}
use Rattle.dp_audit.specs.Runs.{RunnerIsKept, CommitsNext, RegionStands, Unclean, EpochUnderWay}
use Rattle.dp_audit.specs.Groups.{GivesGroup, RegionHasEnded, Makes, StandsBehind}
use Rattle.dp_audit.proofs.IterationMade.{begun_where}
use Rattle.dp_audit.proofs.RunnerLemmas.{kept_next}

module _ (p : Program) (plan : Plan) (input : List ℤ) (first : MachineState) where
  kept_taken : (r : Runner) → RunnerIsKept p plan input first r → RunnerIsKept p plan input first (record r { verdicts = None })
  kept_taken r k = kept_next p plan input first r k r.ledger r.known None k.none_waits refl refl k.copy

  module _ (r : Runner) (k : RunnerIsKept p plan input first r) (now : Runner) (now_is : now ≡ record r { verdicts = None }) (old new : Coming)
      (u : EpochUnderWay plan first r.ledger old) (key_is : new.key ≡ old.key) (given_is : new.given ≡ old.given + 1) where
    pub judged : (clean : Carried) → SaysTheSame old.key (verdict_at old.key old.given) (Commit clean) → CommitsNext p plan input first now new clean
    judged clean verdict = subst (λ (x : Runner). CommitsNext p plan input first x new clean) (sym now_is) (record {
      kept = kept_taken r k;
      before = old.given;
      given = given_is;
      under_way = record {
        plan_is = ap (λ (x : EpochKey). x.plan) key_is ∙ u.plan_is;
        epoch = subst (λ (x : EpochKey). InEpoch x old.given first r.ledger.committed r.ledger.account) (sym key_is) u.epoch;
      };
      verdict = subst (λ (x : EpochKey). SaysTheSame x (verdict_at x old.given) (Commit clean)) (sym key_is) verdict;
    })

    pub unclean : (cause : Cause) → Again cause ≡ verdict_at old.key old.given → Unclean p plan input first now
    unclean cause verdict = subst (λ (x : Runner). Unclean p plan input first x) (sym now_is) (record {
      kept = kept_taken r k;
      no_verdicts = refl;
      unclean = subst (λ (x : Plan). IsUnclean x first r.ledger.committed r.ledger.account) u.plan_is (unclean_here old.key old.given first r.ledger.committed
          r.ledger.account u.epoch cause verdict);
    })

  module _ (n : ℕ) (r : Runner) (s : RegionStands p plan input first n r) (next : Runner) (group : Group)
      (m : Makes p plan input first r.ledger.committed next group) where
    abbrev c : CommittedState
    c = r.ledger.committed

    begun_is : is_begun (region_run first) plan.region n ≡ nat_lt c.machine.steps c.machine.fuel
    begun_is = ap (is_begun (region_run first) plan.region) (sym s.count) ∙ begun_where plan first c r.ledger.account s.progress

    pub gives_group : c.machine.steps < c.machine.fuel → GivesGroup p plan input first n next (Some group)
    gives_group h =
        let begun : nat_lt c.machine.steps c.machine.fuel ≡ true = lt-ltb c.machine.steps c.machine.fuel h in
        let more : c.count + cond (nat_lt c.machine.steps c.machine.fuel) 1 0 ≡ n + 1 = ap (λ (b : Bool). c.count + cond b 1 0) begun
        ∙ ap (λ (i : ℕ). i + 1) s.count in (
          record {
            number = m.number ∙ s.count;
            begun = begun_is ∙ begun;
            again = m.again ∙ ap (is_recovered p plan (region_run first)) s.count;
            sets = m.sets ∙ ap (changes_of p plan (region_run first)) s.count;
            prints_are = m.prints_are h ∙ ap (λ (i : ℕ). prints (iteration (region_run first) plan.region i)) s.count;
            over = ap (has_ended (region_run first) plan.region) (sym s.count) ∙ m.over h;
            left = ap (is_closing (region_run first) plan.region) (sym s.count) ∙ m.left h;
          },
          subst (λ (i : ℕ). StandsBehind p plan input first i next group.end) more m.behind,
        )

    pub gives_none : c.machine.fuel ≤ c.machine.steps → GivesGroup p plan input first n next None
    gives_none h =
        let unbegun : nat_lt c.machine.steps c.machine.fuel ≡ false = le-ltb c.machine.steps c.machine.fuel h in
        let same : c.count + cond (nat_lt c.machine.steps c.machine.fuel) 1 0 ≡ n = ap (λ (b : Bool). c.count + cond b 1 0) unbegun
        ∙ (let e : c.count + 0 ≡ c.count = omega arith in e) ∙ s.count in (
          begun_is ∙ unbegun,
          by m.begun (subst (λ (i : ℕ). StandsBehind p plan input first i next group.end) same m.behind),
        )
      where
        by : (c.machine.steps < c.machine.fuel) ⊎ (group.end ≡ iter_end.Fuel) → StandsBehind p plan input first n next group.end →
            RegionHasEnded plan first n next region_end.Fuel
        by (inl less) b = absurd (omega (arith, less, h))
        by (inr e) b = subst (StandsBehind p plan input first n next) e b

    -- the next iteration starts behind this one
    pub falls : group.end ≡ iter_end.Next → steps_left next.ledger.committed < steps_left r.ledger.committed
    falls e = by m.begun
      where
        by : (c.machine.steps < c.machine.fuel) ⊎ (group.end ≡ iter_end.Fuel) → steps_left next.ledger.committed < steps_left c
        by (inr other) = let clash : iter_end.Next ≡ iter_end.Fuel = sym e ∙ other in absurd (cc clash)
        by (inl less) =
            let t : RegionStands p plan input first (c.count + cond (nat_lt c.machine.steps c.machine.fuel) 1 0) next = subst
            (StandsBehind p plan input first (c.count + cond (nat_lt c.machine.steps c.machine.fuel) 1 0) next) e m.behind in
            let more : next.ledger.committed.count ≡ suc c.count = t.count
            ∙ ap (λ (b : Bool). c.count + cond b 1 0) (lt-ltb c.machine.steps c.machine.fuel less) ∙ (let a : c.count + 1 ≡ suc c.count = omega arith in a) in
            let here = starts_here plan first c r.ledger.account s.progress in
            let there : start (region_run first) plan.region (suc c.count) ≡ Some (steps_of_first (region_run first) plan.region (suc c.count)) =
            subst (λ (i : ℕ). start (region_run first) plan.region i ≡ Some (steps_of_first (region_run first) plan.region i)) more
            (starts_here plan first next.ledger.committed next.ledger.account t.progress) in
            let up = (iterations_adjoin first.program first.input (fuel_left first) first.config plan.region).ascending c.count _ _ here there in
            let old_steps = steps_are plan first c r.ledger.account s.progress in
            let new_steps : next.ledger.committed.machine.steps ≡ first.steps + steps_of_first (region_run first) plan.region (suc c.count) =
            steps_are plan first next.ledger.committed next.ledger.account t.progress
            ∙ ap (λ (i : ℕ). first.steps + steps_of_first (region_run first) plan.region i) more in
            let old_fuel = s.progress.holds.fuel in
            let new_fuel = t.progress.holds.fuel in
            omega (arith, up, old_steps, new_steps, old_fuel, new_fuel, less)
