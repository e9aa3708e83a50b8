use Rattle.std.proofs.Common.{◌∙◌, refl, sym, ap, subst, arith}
use Rattle.dp_base.specs.declared.RegionReport.{RegionReport}
use Rattle.dp_semantics.specs.EpochKey.{EpochKey}
use Rattle.dp_epoch.specs.declared.following.Followed.{Followed}
use Rattle.dp_epoch.specs.Followed.{FollowsVerdict, IsFollowed}
use Rattle.dp_epoch.proofs.OtherEpoch.{leaves_followed}
use Rattle.dp_crew.proofs.StreamLemmas.{emits_front, emits_nothing, emits_on, emits_stopped}
use Rattle.dp_crew.proofs.EpochRuns.{failed_so, stopped}
use Rattle.dp_crew.proofs.FollowRuns.{counts_here, emits_followed, front_of_followed}
use Rattle.dp_crew.proofs.following.follow_verdicts.Goals as goal

pub follow_next-requires-clause-epoch : goal.follow_next-requires-clause-epoch
follow_next-requires-clause-epoch g c κs within =
    let plan = c.requires.epoch.0 in
    let first = c.requires.epoch.1 in (
      plan,
      first,
      subst (λ (k : EpochKey). IsFollowed plan k c.verdicts.verdicts.given first c.verdicts.ledger.committed c.verdicts.ledger.account)
          (sym c.verdicts.invariant.key) (c.verdicts.invariant.followed plan first c.requires.epoch.3 c.requires.epoch.2),
      c.requires.epoch.3,
    )

pub returns-in_err-followed : goal.returns-in_err-followed
returns-in_err-followed g c = record {
  followed = λ plan same.
      stopped _ _ _ _ _ _ _ _ _ _ _ _ c.from_residual.ensures.0
      (failed_so c.from_residual.result _ _ _ _ c.from_residual.ensures.1 refl c.verdicts.invariant.faults)
      (λ first e. emits_stopped _ _ _ _ (c.verdicts.invariant.emits plan first same e));
}

pub returns-in_err-flush_if_many : goal.returns-in_err-flush_if_many
returns-in_err-flush_if_many g c = record {
  followed = λ plan same.
      let t = subst (λ (k : EpochKey). FollowsVerdict c.args.words k c.verdicts.verdicts.given c.verdicts.ledger c.follow_next.new.ledger
      c.in_ok-followed.followed c.verdicts.tally c.follow_next.new.tally) c.verdicts.invariant.key c.in_ok-followed.ensures.followed in
      stopped _ _ _ _ _ _ _ _ _ _ _ _ c.from_residual-in_err-flush_if_many.ensures.0
      (failed_so c.from_residual-in_err-flush_if_many.result _ _ _ _ c.from_residual-in_err-flush_if_many.ensures.1 c.in_err-flush_if_many.ensures.faults
      c.verdicts.invariant.faults)
      (λ first e. emits_front _ _ _ _ _ (c.verdicts.invariant.emits plan first same e)
      (front_of_followed plan _ same _ _ first _ _ _ _ _ t (c.verdicts.invariant.followed plan first same e) _ _ c.in_err-flush_if_many.ensures.streams));
}

pub verdicts-smaller : goal.verdicts-smaller
verdicts-smaller g c = c.in_ok-followed.ensures.followed.falls c.in-Committed.is

pub verdicts-preserved : goal.verdicts-preserved
verdicts-preserved g c =
    let t = subst (λ (x : Followed). FollowsVerdict c.args.words c.args.verdicts.now.key c.verdicts.verdicts.given c.verdicts.ledger c.follow_next.new.ledger x
    c.verdicts.tally c.follow_next.new.tally) c.in-Committed.is
    (subst (λ (k : EpochKey). FollowsVerdict c.args.words k c.verdicts.verdicts.given c.verdicts.ledger c.follow_next.new.ledger c.in_ok-followed.followed
    c.verdicts.tally c.follow_next.new.tally) c.verdicts.invariant.key c.in_ok-followed.ensures.followed) in
    let balance = c.verdicts.invariant.tally in
    let left = c.verdicts.invariant.left in
    let counted = t.counted in
    let less = t.left in
    record {
      followed = λ plan first same e. subst (λ n. IsFollowed plan c.args.verdicts.now.key n first c.follow_next.new.ledger.committed
          c.follow_next.new.ledger.account) (sym c.in_ok-followed.ensures.given) (t.stands plan first (c.verdicts.invariant.followed plan first same e) same);
      key = c.in_ok-followed.ensures.key ∙ c.verdicts.invariant.key;
      tally = omega (arith, counted, balance);
      left = omega (arith, less, left);
      room = t.room;
      report = t.report ∙ ap (λ (x : RegionReport). record x { iterations = c.follow_next.new.ledger.committed.count }) c.verdicts.invariant.report;
      why = t.why ∙ c.verdicts.invariant.why;
      emits = λ plan first same e. emits_on _ _ _ _ _ _ (c.verdicts.invariant.emits plan first same e)
          (emits_followed plan _ same _ _ first _ _ _ _ _ t (c.verdicts.invariant.followed plan first same e) _ _ _ c.in_ok-flush_if_many.ensures.streams);
      faults = c.in_ok-flush_if_many.ensures.faults ∙ c.verdicts.invariant.faults;
    }

pub returns-in-Left : goal.returns-in-Left
returns-in-Left g c = record {
  followed = λ plan same.
      let t = subst (λ (x : Followed). FollowsVerdict c.args.words c.args.verdicts.now.key c.verdicts.verdicts.given c.verdicts.ledger c.follow_next.new.ledger
      x c.verdicts.tally c.follow_next.new.tally) c.in-Left.is
      (subst (λ (k : EpochKey). FollowsVerdict c.args.words k c.verdicts.verdicts.given c.verdicts.ledger c.follow_next.new.ledger c.in_ok-followed.followed
      c.verdicts.tally c.follow_next.new.tally) c.verdicts.invariant.key c.in_ok-followed.ensures.followed) in
      let balance = c.verdicts.invariant.tally in
      let left = c.verdicts.invariant.left in
      let counted = t.counted in
      let less = t.left in
      record {
        faults_are = c.in_ok-flush_if_many.ensures.faults ∙ c.verdicts.invariant.faults;
        ends = λ first e. t.stands plan first (c.verdicts.invariant.followed plan first same e) same;
        streams = λ first e. emits_on _ _ _ _ _ _ (c.verdicts.invariant.emits plan first same e)
            (emits_followed plan _ same _ _ first _ _ _ _ _ t (c.verdicts.invariant.followed plan first same e) _ _ _ c.in_ok-flush_if_many.ensures.streams);
        report = t.report ∙ ap (λ (x : RegionReport). record x { iterations = c.follow_next.new.ledger.committed.count }) c.verdicts.invariant.report;
        why = t.why ∙ c.verdicts.invariant.why;
        counted = omega (arith, counted, balance);
        room = t.room;
        left = omega (arith, less, left);
      };
}

pub returns-then-not-follows_on : goal.returns-then-not-follows_on
returns-then-not-follows_on g c = record {
  followed = λ plan same.
      let t = subst (λ (x : Followed). FollowsVerdict c.args.words c.args.verdicts.now.key c.verdicts.verdicts.given c.verdicts.ledger c.follow_next.new.ledger
      x c.verdicts.tally c.follow_next.new.tally) c.in-Committed.is
      (subst (λ (k : EpochKey). FollowsVerdict c.args.words k c.verdicts.verdicts.given c.verdicts.ledger c.follow_next.new.ledger c.in_ok-followed.followed
      c.verdicts.tally c.follow_next.new.tally) c.verdicts.invariant.key c.in_ok-followed.ensures.followed) in
      let balance = c.verdicts.invariant.tally in
      let left = c.verdicts.invariant.left in
      let counted = t.counted in
      let less = t.left in
      record {
        faults_are = c.in_ok-flush_if_many.ensures.faults ∙ c.verdicts.invariant.faults;
        ends = λ first e. leaves_followed plan _ _ first _ _ (t.stands plan first (c.verdicts.invariant.followed plan first same e) same);
        streams = λ first e. emits_on _ _ _ _ _ _ (c.verdicts.invariant.emits plan first same e)
            (emits_followed plan _ same _ _ first _ _ _ _ _ t (c.verdicts.invariant.followed plan first same e) _ _ _ c.in_ok-flush_if_many.ensures.streams);
        report = t.report ∙ ap (λ (x : RegionReport). record x { iterations = c.follow_next.new.ledger.committed.count }) c.verdicts.invariant.report;
        why = t.why ∙ c.verdicts.invariant.why;
        counted = omega (arith, counted, balance);
        room = t.room;
        left = omega (arith, less, left);
      };
}

pub verdicts-init : goal.verdicts-init
verdicts-init g c = record {
  followed = λ plan first same e. e;
  key = refl;
  tally = refl;
  left = omega arith;
  room = c.requires.room;
  report = counts_here _ _ _ _ c.requires.epoch.2.progress;
  why = refl;
  emits = λ plan first same e. emits_nothing _ _;
  faults = refl;
}
