-- Iterations that are followed behind a ledger, by the epoch of another plan of the region.
use Rattle.std.proofs.Common.{◌≡◌, ◌∙◌, refl, sym, ap, subst, ℕ, true, List, ℤ, Option, Result, Ok, arith}
use Rattle.dp_base.specs.declared.RegionReport.{RegionReport}
use Rattle.dp_tree.specs.declared.Program.{Program}
use Rattle.dp_plan.specs.declared.Plan.{Plan}
use Rattle.dp_meaning.specs.MachineState.{MachineState}
use Rattle.dp_semantics.specs.EpochCauses.{IsSound}
use Rattle.dp_semantics.specs.EpochKey.{EpochKey}
use Rattle.dp_semantics.specs.Fits.{fits_plan}
use Rattle.dp_theorem.proofs.GivenFits.{given_fits}
use Rattle.dp_prepared.specs.Planned.{IsPlanned, Prepared}
use Rattle.dp_run_plan.specs.Others.{RunsAs}
use Rattle.dp_pipeline.specs.Coming.{Coming}
use Rattle.dp_edge.specs.declared.writing.WriteFail.{WriteFail}
use Rattle.dp_commit.specs.CommittedState.{CommittedState}
use Rattle.dp_epoch.specs.declared.account.Account.{Account}
use Rattle.dp_epoch.specs.declared.ledger.Ledger.{Ledger}
use Rattle.dp_epoch.specs.Applied.{HasRoomForVerdicts}
use Rattle.dp_epoch.specs.declared.ends.EpochEnd.TheVariants.{Left}
use Rattle.dp_epoch.specs.declared.following.Followed.{Followed}
use Rattle.dp_epoch.specs.Followed.{FollowsVerdict, IsFollowed}
use Rattle.dp_epoch.specs.InEpoch.{ToBegin, key_here, none_given}
use Rattle.dp_epoch.specs.Progress.{Progress, report_before}
use Rattle.dp_epoch.specs.Prints.{prints_from, prints_to_come}
use Rattle.dp_epoch.proofs.Counting.{told_iterations}
use Rattle.dp_epoch.proofs.EpochBegins.{sound_here}
use Rattle.dp_epoch.proofs.OtherEpoch.{begin_following, other_begins}
use Rattle.dp_edge.specs.Writing.{WritesFront}
use Rattle.dp_report.specs.PrintsText.{prints_bytes}
use Rattle.dp_crew.specs.EpochRan.{HasFollowed}
use Rattle.dp_crew.specs.Output.{Emits}
use Rattle.dp_crew.proofs.EpochRuns.{ran_for}
use Rattle.dp_crew.proofs.StreamLemmas.{emits_ahead, emits_nothing, front_ahead}

-- the account counts what is committed
pub counts_here : (plan : Plan) (first : MachineState) (c : CommittedState) (account : Account) → Progress plan first c account →
    account.report ≡ record account.report { iterations = c.count }
counts_here plan first c account g = g.report_is ∙ sym (told_iterations account.why (report_before plan first c.count) c.count)
    ∙ ap (λ (x : RegionReport). record x { iterations = c.count }) (sym g.report_is)

-- Nothing was done.
pub unfollowed : (p : Program) (plan : Plan) (input : List ℤ) (ledger : Ledger) (faults : ℕ) (told : Option (List ℕ)) (tally : ℕ) (first : MachineState) →
    ToBegin p plan input first ledger.committed ledger.account → HasRoomForVerdicts tally ledger.committed →
    HasFollowed (λ (other : MachineState). ToBegin p plan input other ledger.committed ledger.account) plan ledger (Ok ledger) faults faults
    told told tally tally
unfollowed p plan input ledger faults told tally first b room = record {
  faults_are = refl;
  ends = λ other begun. begun.at_epoch;
  streams = λ other begun. emits_nothing _ _;
  report = counts_here plan first ledger.committed ledger.account b.at_epoch.progress;
  why = refl;
  counted = refl;
  room = room;
  left = omega arith;
}

-- The epoch of another plan of the region that begins behind the ledger.
module _ (region other : Prepared) (beside : RunsAs region other) (planned : IsPlanned other.program other.plan) (input : List ℤ) where
  fits : fits_plan region.program other.plan ≡ true
  fits = subst (λ (p : Program). fits_plan p other.plan ≡ true) beside.0 (given_fits other.program planned.inlined other.plan planned.is_plan)

  -- .. begins in a memory as the program has it
  pub other_sound : (first : MachineState) (c : CommittedState) (account : Account) → ToBegin region.program region.plan input first c account →
      IsSound (key_here other.program other.plan input c)
  other_sound first c account b =
      subst (λ (p : Program). IsSound (key_here p other.plan input c)) (sym beside.0)
      (sound_here region.program other.plan input first c _ (other_begins region.program region.plan other.plan input first c account b beside.1 fits))

  -- These are its verdicts.
  module _ (ledger : Ledger) (verdicts : Coming) (is : verdicts ≡ none_given (key_here other.program other.plan input ledger.committed)) where
    pub follows_here : (first : MachineState) → ToBegin region.program region.plan input first ledger.committed ledger.account →
        IsFollowed region.plan verdicts.key verdicts.given first ledger.committed ledger.account
    follows_here first b =
        subst (λ (v : Coming). IsFollowed region.plan v.key v.given first ledger.committed ledger.account) (sym is)
        (subst (λ (p : Program). IsFollowed region.plan (key_here p other.plan input ledger.committed) 0 first ledger.committed ledger.account) (sym beside.0)
        (begin_following region.program region.plan other.plan input first ledger.committed ledger.account b beside.1 fits))

    pub followed_here : (r : Result Ledger WriteFail) (faults faults_now : ℕ) (told tells : Option (List ℕ)) (tally tally_now : ℕ) →
        HasFollowed (λ (first : MachineState). IsFollowed region.plan verdicts.key verdicts.given first ledger.committed ledger.account) region.plan ledger r
        faults faults_now told tells tally tally_now →
        HasFollowed (λ (first : MachineState). ToBegin region.program region.plan input first ledger.committed ledger.account) region.plan ledger r faults
        faults_now told tells tally tally_now
    followed_here r faults faults_now told tells tally tally_now ran =
        ran_for (λ (l : Ledger). l) (λ (l : Ledger). Left) region.plan ledger faults faults_now told tells tally tally_now
        (λ (first : MachineState). IsFollowed region.plan verdicts.key verdicts.given first ledger.committed ledger.account)
        (λ (first : MachineState). ToBegin region.program region.plan input first ledger.committed ledger.account) r follows_here ran

-- What is written of the prints that wait behind a verdict that is followed.
module _ (plan : Plan) (words : ℕ) (same : words ≡ plan.words) (key : EpochKey) (n : ℕ) (first : MachineState) (old new : Ledger) (followed : Followed)
    (tally tally_now : ℕ) (t : FollowsVerdict words key n old new followed tally tally_now) (e : IsFollowed plan key n first old.committed old.account)
    (told tells : Option (List ℕ)) where
  pub emits_followed : (after : List ℤ) → Emits new.waiting after told tells → Emits (prints_to_come plan first old.waiting old.committed.count)
      (prints_to_come plan first after new.committed.count) told tells
  emits_followed after w = subst (λ (xs : List ℤ). Emits xs (prints_to_come plan first after new.committed.count) told tells) (sym (t.ahead plan first e same))
      (emits_ahead new.waiting after (prints_from plan first new.committed.count) told tells w)

  pub front_of_followed : WritesFront (prints_bytes new.waiting) told tells →
      WritesFront (prints_bytes (prints_to_come plan first old.waiting old.committed.count)) told tells
  front_of_followed w = subst (λ (xs : List ℤ). WritesFront (prints_bytes xs) told tells) (sym (t.ahead plan first e same))
      (front_ahead new.waiting (prints_from plan first new.committed.count) told tells w)
