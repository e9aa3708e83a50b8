-- The verdict on the epoch's next iteration is the one on iteration `count` of the region's own run.
use Rattle.std.proofs.Common.{◌≡◌, ◌⊎◌, inl, inr, refl, sym, ap, ◌∙◌, subst, ℕ, ◌-◌, Bool, true, false, not, List, length, ℤ, arith}
use Rattle.dp_base.specs.declared.Cause.{Cause as ReportedCause}
use Rattle.dp_epoch.specs.declared.account.Account.{Account}
use Rattle.dp_tree.specs.declared.Program.{Program}
use Rattle.dp_tree.specs.Trace.{Run}
use Rattle.dp_tree.specs.Iteration.{memory_after}
use Rattle.dp_semantics.specs.Clean.{is_clean}
use Rattle.dp_semantics.specs.Recovery.{epoch, is_recovered}
use Rattle.dp_semantics.specs.Packets.{passed}
use Rattle.dp_semantics.specs.Judge.{Agreed, Judgement, Clean, Unclean, judge}
use Rattle.dp_semantics.specs.Verdict.{Judged, judgement_at, done_in}
use Rattle.dp_semantics.specs.EpochKey.{EpochKey}
use Rattle.dp_semantics.specs.EpochVerdicts.{Carried, carried, Commit, Again, judgement_in, judgement_of, verdict_by, verdict_at}
use Rattle.dp_meaning.specs.MachineState.{MachineState, fuel_left}
use Rattle.dp_commit.specs.CommittedState.{CommittedState, region_run, steps_of_first}
use Rattle.dp_theorem.proofs.Central.{fuel_is}
use Rattle.dp_theorem.proofs.Fitting.{fitting_judges}
use Rattle.dp_run_plan.proofs.Alike.{clean_anywhere}
use Rattle.dp_run_plan.specs.RunPlan.{hides_nothing}
use Rattle.dp_net.specs.NetVerdicts.{SaysTheSame}
use Rattle.dp_epoch.specs.InEpoch.{InEpoch}
use Rattle.dp_epoch.specs.Progress.{Progress}
use Rattle.dp_epoch.proofs.Here.{memory_is, starts_here, steps_are}

module _ (key : EpochKey) (n : ℕ) (first : MachineState) (c : CommittedState) (account : Account) (e : InEpoch key n first c account) where
  abbrev g : Progress key.plan first c account
  g = e.progress

  abbrev source : Run
  source = region_run first

  -- where the region's own epoch began
  abbrev began : ℕ
  began = epoch first.program key.plan (region_run first) c.count

  abbrev k : ℕ
  k = steps_of_first (region_run first) key.plan.region c.count

  -- a judgement on the n-th packet of the epoch that begins with this memory
  abbrev judging : Program → List ℤ → ℕ → List ℤ → List ℤ → ℕ → Judgement
  judging p input left cells base m =
      judge p key.plan left cells (passed (record { program = p; plan = key.plan; input = input; base = base }) (length key.plan.stages) m).packet

  pub judgement_is : judgement_of key n ≡ judgement_at first.program key.plan first.input source key.first c.count k
  judgement_is =
      let left : key.fuel - c.machine.steps ≡ source.fuel - k = omega
      (arith, e.key_is.fuel, steps_are key.plan first c account g, fuel_is first.program first.input (fuel_left first) first.config) in
      let place : n ≡ c.count - key.first = omega (arith, e.place) in
      ap (judgement_in key n) e.state
      ∙ ap (λ (p : Program). judging p key.input (key.fuel - c.machine.steps) c.machine.config.cells key.base n) e.key_is.program
      ∙ ap (λ (input : List ℤ). judging first.program input (key.fuel - c.machine.steps) c.machine.config.cells key.base n) e.key_is.input
      ∙ ap (λ (m : ℕ). judging first.program first.input m c.machine.config.cells key.base n) left
      ∙ ap (λ (cells : List ℤ). judging first.program first.input (source.fuel - k) cells key.base n) (memory_is key.plan first c account g)
      ∙ ap (λ (base : List ℤ). judging first.program first.input (source.fuel - k) (memory_after source key.plan.region c.count) base n) e.base
      ∙ ap (judging first.program first.input (source.fuel - k) (memory_after source key.plan.region c.count)
      (memory_after source key.plan.region key.first)) place

  judged : Judged first.program key.plan first.input source key.first c.count k
  judged = fitting_judges first.program key.plan g.start.fits first.input (fuel_left first) first.config g.start.stands key.first c.count k
      (omega (arith, e.place)) (starts_here key.plan first c account g) e.since

  -- it is clean in this epoch as it is in the region's own
  clean_same : is_clean first.program key.plan source began c.count ≡ is_clean first.program key.plan source key.first c.count
  clean_same = by e.begun
    where
      by : (began ≡ key.first) ⊎ (hides_nothing first.program key.plan ≡ true) → is_clean first.program key.plan source began c.count ≡ is_clean first.program
          key.plan source key.first c.count
      by (inl same) = ap (λ (m : ℕ). is_clean first.program key.plan source m c.count) same
      by (inr hides) = clean_anywhere first.program key.plan hides source began key.first c.count

  -- a clean iteration is judged so
  pub clean_judged : is_clean first.program key.plan source key.first c.count ≡ true → judgement_of key n ≡ Clean (done_in key.plan source c.count)
  clean_judged clean = judgement_is ∙ (judged.sent clean).judged

  -- the verdict is to commit: the iteration is clean, and what is carried says the same as the source's own
  pub record IsClean (v : Carried) : Type 0 where
    pub clean : is_clean first.program key.plan source began c.count ≡ true
    pub since : is_clean first.program key.plan source key.first c.count ≡ true
    pub judged_so : judgement_of key n ≡ Clean (done_in key.plan source c.count)
    pub alike : SaysTheSame key (Commit (carried (done_in key.plan source c.count))) (Commit v)

  clean_by : (v : Carried) (j : Judgement) → judgement_of key n ≡ j → SaysTheSame key (verdict_by key n j) (Commit v) → IsClean v
  clean_by v (Clean agreed) is gives =
      let clean = judged.back agreed (sym judgement_is ∙ is) in
      let told = clean_judged clean in
      let both : Clean agreed ≡ Clean (done_in key.plan source c.count) = sym is ∙ told in
      let same : agreed ≡ done_in key.plan source c.count = cc both in
      record {
        clean = clean_same ∙ clean;
        since = clean;
        judged_so = told;
        alike = subst (λ (a : Agreed). SaysTheSame key (Commit (carried a))
            (Commit v)) same gives;
      }
  clean_by v Unclean is gives = absurd gives

  pub clean_case : (v : Carried) → SaysTheSame key (verdict_at key n) (Commit v) → IsClean v
  clean_case v gives = clean_by v (judgement_of key n) refl gives

  -- the verdict is to execute it again: the iteration isn't clean
  not_clean : (b : Bool) → is_clean first.program key.plan source key.first c.count ≡ b → judgement_of key n ≡ Unclean → not b ≡ true
  not_clean false b is = refl
  not_clean true b is = let clash : Unclean ≡ Clean (done_in key.plan source c.count) = sym is ∙ clean_judged b in absurd (cc clash)

  unclean_by : (why : ReportedCause) (j : Judgement) → judgement_of key n ≡ j → Again why ≡ verdict_by key n j →
      is_recovered first.program key.plan source c.count ≡ true
  unclean_by why (Clean agreed) is gives = absurd (cc gives)
  unclean_by why Unclean is gives = ap not clean_same ∙ not_clean (is_clean first.program key.plan source key.first c.count) refl is

  pub unclean_case : (why : ReportedCause) → Again why ≡ verdict_at key n → is_recovered first.program key.plan source c.count ≡ true
  unclean_case why gives = unclean_by why (judgement_of key n) refl gives
