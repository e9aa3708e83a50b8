-- What was done behind a ledger, said of another beginning, and joined; and what stopped early.
use Rattle.std.proofs.Common.{◌≡◌, ◌∙◌, refl, sym, ap, subst, ℕ, ◌<◌, true, List, ℤ, Option, Result, Ok, Err, arith}
use Rattle.std.specs.Result.{IsErr, IsErrAnd}
use Rattle.dp_base.specs.declared.RegionReport.{RegionReport}
use Rattle.dp_tree.specs.declared.Program.{Program}
use Rattle.dp_plan.specs.declared.Plan.{Plan}
use Rattle.dp_report.specs.PrintsText.{prints_bytes}
use Rattle.dp_semantics.specs.EpochKey.{EpochKey}
use Rattle.dp_run_plan.specs.RunPlan.{hides_nothing}
use Rattle.dp_meaning.specs.MachineState.{MachineState}
use Rattle.dp_commit.specs.CommittedState.{CommittedState}
use Rattle.dp_epoch.specs.declared.account.Account.{Account}
use Rattle.dp_prepared.specs.Planned.{Prepared}
use Rattle.dp_pipeline.specs.Coming.{Coming}
use Rattle.dp_epoch.specs.declared.ends.EpochEnd.{EpochEnd}
use Rattle.dp_edge.specs.declared.writing.WriteFail.{WriteFail}
use Rattle.dp_edge.specs.declared.writing.WriteFail.TheVariants.{Write, NoMemory}
use Rattle.dp_epoch.specs.declared.ledger.Ledger.{Ledger}
use Rattle.dp_epoch.proofs.EpochBegins.{epoch_here, leaves_epoch}
use Rattle.dp_crew.specs.EpochRan.{EpochRan, HasFollowed, HasRun}
use Rattle.dp_edge.specs.Writing.{FaultsAfter, WritesFront}
use Rattle.dp_epoch.specs.InEpoch.{AtEpoch, InEpoch, ToBegin, key_here, none_given}
use Rattle.dp_epoch.specs.Prints.{prints_to_come}
use Rattle.dp_edge.proofs.FrontLemmas.{front_nothing}
use Rattle.dp_crew.proofs.StreamLemmas.{emits_front, emits_on}

module _ {X : Type 0} (after : X → Ledger) (end : X → EpochEnd) (plan : Plan) (ledger : Ledger) (faults faults_now : ℕ) (told tells : Option (List ℕ))
    (tally tally_now : ℕ) where
  -- What holds in each run of which the one holds, holds in each of which the other does.
  pub ran_for : (begun others : MachineState → Type 0) (r : Result X WriteFail) → ((first : MachineState) → others first → begun first) →
      HasRun after end begun plan ledger r faults faults_now told tells tally tally_now →
      HasRun after end others plan ledger r faults faults_now told tells tally tally_now
  ran_for begun others (Ok x) gives ran = record {
    faults_are = ran.faults_are;
    ends = λ first b. ran.ends first (gives first b);
    streams = λ first b. ran.streams first (gives first b);
    report = ran.report;
    why = ran.why;
    counted = ran.counted;
    room = ran.room;
    left = ran.left;
  }
  ran_for begun others (Err fail) gives ran =
      record {
        faults_are = ran.faults_are;
        ends = tt;
        streams = λ first b. ran.streams first (gives first b);
        report = tt;
        why = tt;
        counted = tt;
        room = tt;
        left = tt;
      }

  -- Something stopped it, and this was written.
  pub stopped : (begun : MachineState → Type 0) (r : Result X WriteFail) → IsErr r → FaultsAfter r faults faults_now →
      ((first : MachineState) → begun first → WritesFront (prints_bytes (prints_to_come plan first ledger.waiting ledger.committed.count)) told tells) →
      HasRun after end begun plan ledger r faults faults_now told tells tally tally_now
  stopped begun (Ok x) is failed written = absurd (cc)
  stopped begun (Err fail) is failed written =
      record { faults_are = failed; ends = tt; streams = written; report = tt; why = tt; counted = tt; room = tt; left = tt }

-- What fails hands on why, and the sink's count of faults with it.
pub failed_so : {X : Type 0} (r : Result X WriteFail) (fail : WriteFail) (old mid now : ℕ) → IsErrAnd r (λ (e : WriteFail). e ≡ fail) →
    FaultsAfter {X = X} (Err fail) mid now → mid ≡ old → FaultsAfter r old now
failed_so {X = X} (Ok x) fail old mid now is f e = absurd is
failed_so {X = X} (Err why) fail old mid now is f e = subst (λ (y : WriteFail). FaultsAfter {X = X} (Err y) old now) (sym is) (from fail f)
  where
    from : (y : WriteFail) → FaultsAfter {X = X} (Err y) mid now → FaultsAfter {X = X} (Err y) old now
    from Write h = subst (λ (n : ℕ). n < now) e h
    from NoMemory h = h ∙ e

-- Memory was wanting before anything was done.
pub unbegun : {X : Type 0} (after : X → Ledger) (end : X → EpochEnd) (begun : MachineState → Type 0) (plan : Plan) (ledger : Ledger) (r : Result X WriteFail)
    (faults : ℕ) (told : Option (List ℕ)) (tally : ℕ) → IsErrAnd r (λ (e : WriteFail). e ≡ NoMemory) →
    HasRun after end begun plan ledger r faults faults told told tally tally
unbegun after end begun plan ledger (Ok x) faults told tally is = absurd is
unbegun {X = X} after end begun plan ledger (Err fail) faults told tally is = record {
  faults_are = failed_so {X = X} (Err fail) NoMemory faults faults faults is refl refl;
  ends = tt;
  streams = λ first b. front_nothing (prints_bytes (prints_to_come plan first ledger.waiting ledger.committed.count)) told told refl;
  report = tt;
  why = tt;
  counted = tt;
  room = tt;
  left = tt;
}

-- Where following stopped early, all stops.
pub stops_so : (begun : MachineState → Type 0) (plan : Plan) (ledger : Ledger) (fail : WriteFail) (faults faults_now : ℕ) (told tells : Option (List ℕ))
    (tally tally_now : ℕ) → HasFollowed begun plan ledger (Err fail) faults faults_now told tells tally tally_now →
    (r : Result (Ledger × EpochEnd) WriteFail) → IsErrAnd r (λ (e : WriteFail). e ≡ fail) →
    EpochRan begun plan ledger r faults faults_now told tells tally tally_now
stops_so begun plan ledger fail faults faults_now told tells tally tally_now ran (Ok x) is = absurd is
stops_so begun plan ledger fail faults faults_now told tells tally tally_now ran (Err why) is = record {
  faults_are = failed_so {X = Ledger × EpochEnd} (Err why) fail faults faults faults_now is (faults_of fail ran.faults_are) refl;
  ends = tt;
  streams = ran.streams;
  report = tt;
  why = tt;
  counted = tt;
  room = tt;
  left = tt;
}
  where
    faults_of : (y : WriteFail) → FaultsAfter {X = Ledger} (Err y) faults faults_now → FaultsAfter {X = Ledger × EpochEnd} (Err y) faults faults_now
    faults_of Write h = h
    faults_of NoMemory h = h

-- Iterations were followed, and an epoch was run behind them.
module _ (begun others : MachineState → Type 0) (plan : Plan) (ledger mid : Ledger) (faults faults_mid faults_now : ℕ) (told between tells : Option (List ℕ))
    (tally tally_mid tally_now : ℕ) (one : HasFollowed begun plan ledger (Ok mid) faults faults_mid told between tally tally_mid)
    (gives : (first : MachineState) → begun first → AtEpoch plan first mid.committed mid.account → others first) where
  pub joined : (r : Result (Ledger × EpochEnd) WriteFail) → EpochRan others plan mid r faults_mid faults_now between tells tally_mid tally_now →
      EpochRan begun plan ledger r faults faults_now told tells tally tally_now
  joined (Ok x) two = let a = one.counted in let b = two.counted in let c = one.left in let d = two.left in record {
    faults_are = two.faults_are ∙ one.faults_are;
    ends = λ first b. two.ends first (gives first b (one.ends first b));
    streams = λ first b. emits_on _ _ _ _ _ _ (one.streams first b) (two.streams first (gives first b (one.ends first b)));
    report = two.report ∙ ap (λ (r : RegionReport). record r { iterations = x.0.committed.count }) one.report;
    why = two.why ∙ one.why;
    counted = omega (arith, a, b);
    room = two.room;
    left = omega (arith, c, d);
  }
  joined (Err fail) two = record {
    faults_are = failed_so {X = Ledger × EpochEnd} (Err fail) fail faults faults_mid faults_now refl two.faults_are one.faults_are;
    ends = tt;
    streams = λ first b. emits_front _ _ _ _ _ (one.streams first b) (two.streams first (gives first b (one.ends first b)));
    report = tt;
    why = tt;
    counted = tt;
    room = tt;
    left = tt;
  }

-- Where nothing is hidden from the stages an epoch may be left behind each verdict.
pub left_anywhere : (key : EpochKey) (n : ℕ) (first : MachineState) (c : CommittedState) (account : Account) → InEpoch key n first c account →
    hides_nothing key.program key.plan ≡ true → AtEpoch key.plan first c account
left_anywhere key n first c account e hides =
    leaves_epoch key n first c account e (ap (λ (p : Program). hides_nothing p key.plan) (sym e.key_is.program) ∙ hides)

-- what comes of the epoch that begins behind what is committed
abbrev pub coming_here : List ℤ → CommittedState → Prepared → Coming
coming_here input c r = none_given (key_here r.program r.plan input c)

-- These are the verdicts of the epoch that begins behind the ledger.
module _ (p : Program) (plan : Plan) (input : List ℤ) (ledger : Ledger) (verdicts : Coming)
    (is : verdicts ≡ none_given (key_here p plan input ledger.committed)) where
  pub begins_here : (first : MachineState) → ToBegin p plan input first ledger.committed ledger.account →
      InEpoch verdicts.key verdicts.given first ledger.committed ledger.account
  begins_here first b =
      subst (λ (v : Coming). InEpoch v.key v.given first ledger.committed ledger.account) (sym is)
      (epoch_here (key_here p plan input ledger.committed) 0 first ledger.committed ledger.account
      (record { first = refl; base = refl; steps = refl; fuel = refl; none = refl }) b)

  pub ran_here : (r : Result (Ledger × EpochEnd) WriteFail) (faults faults_now : ℕ) (told tells : Option (List ℕ)) (tally tally_now : ℕ) →
      EpochRan (λ (first : MachineState). InEpoch verdicts.key verdicts.given first ledger.committed ledger.account) verdicts.key.plan ledger r faults
      faults_now told tells tally tally_now →
      EpochRan (λ (first : MachineState). ToBegin p plan input first ledger.committed ledger.account) plan ledger r faults faults_now told tells tally tally_now
  ran_here r faults faults_now told tells tally tally_now ran =
      subst (λ (v : Coming). EpochRan (λ (first : MachineState). ToBegin p plan input first ledger.committed ledger.account) v.key.plan ledger r faults
      faults_now told tells tally tally_now) is
      (ran_for (λ (x : Ledger × EpochEnd). x.0) (λ (x : Ledger × EpochEnd). x.1) verdicts.key.plan ledger faults faults_now told tells tally tally_now
      (λ (first : MachineState). InEpoch verdicts.key verdicts.given first ledger.committed ledger.account)
      (λ (first : MachineState). ToBegin p plan input first ledger.committed ledger.account) r begins_here ran)
