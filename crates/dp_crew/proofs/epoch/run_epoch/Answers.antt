use Rattle.std.proofs.Common.{◌∙◌, ◌+◌, refl, sym, ap, subst, arith}
use Rattle.dp_base.specs.declared.RegionReport.{RegionReport}
use Rattle.dp_semantics.specs.EpochKey.{EpochKey}
use Rattle.dp_pipeline.specs.Coming.{Coming}
use Rattle.dp_epoch.specs.declared.taken.Taken.{Taken}
use Rattle.dp_epoch.specs.InEpoch.{InEpoch}
use Rattle.dp_epoch.specs.Taken.{TakesVerdict}
use Rattle.dp_epoch.proofs.EpochLemmas.{report_here}
use Rattle.dp_crew.proofs.StreamLemmas.{emits_front, emits_nothing, emits_on, emits_stopped}
use Rattle.dp_crew.proofs.EpochRuns.{failed_so, left_anywhere, stopped}
use Rattle.dp_crew.proofs.VerdictPrints.{emits_taken, front_of_taken}
use Rattle.dp_crew.proofs.epoch.run_epoch.Goals as goal

pub take-requires-clause-epoch : goal.take-requires-clause-epoch
take-requires-clause-epoch g c =
    let first = c.requires.epoch.0 in (
      first,
      subst (λ (v : Coming). InEpoch v.key v.given first c.verdicts.ledger.committed c.verdicts.ledger.account) (sym c.await_one.ensures)
          (subst (λ (k : EpochKey). InEpoch k c.verdicts.verdicts.given first c.verdicts.ledger.committed c.verdicts.ledger.account)
          (sym c.verdicts.invariant.key) (c.verdicts.invariant.epoch first c.requires.epoch.1)),
    )

pub returns-in_err-taken-clause-ran : goal.returns-in_err-taken-clause-ran
returns-in_err-taken-clause-ran g c =
    stopped _ _ _ _ _ _ _ _ _ _ _ _ c.from_residual.ensures.0
    (failed_so c.from_residual.result _ _ _ _ c.from_residual.ensures.1 refl c.verdicts.invariant.faults)
    (λ first e. emits_stopped _ _ _ _ (c.verdicts.invariant.emits first e))

pub returns-in_err-flush_if_many-clause-ran : goal.returns-in_err-flush_if_many-clause-ran
returns-in_err-flush_if_many-clause-ran g c =
    let t = subst (λ (k : EpochKey). TakesVerdict k c.verdicts.verdicts.given c.verdicts.ledger c.take.new.ledger c.in_ok-taken.taken c.verdicts.tally
    c.take.new.tally) c.verdicts.invariant.key (subst (λ (v : Coming). TakesVerdict v.key v.given c.verdicts.ledger c.take.new.ledger c.in_ok-taken.taken
    c.verdicts.tally c.take.new.tally) c.await_one.ensures c.in_ok-taken.ensures.taken) in
    stopped _ _ _ _ _ _ _ _ _ _ _ _ c.from_residual-in_err-flush_if_many.ensures.0
    (failed_so c.from_residual-in_err-flush_if_many.result _ _ _ _ c.from_residual-in_err-flush_if_many.ensures.1 c.in_err-flush_if_many.ensures.faults
    c.verdicts.invariant.faults)
    (λ first e. emits_front _ _ _ _ _ (c.verdicts.invariant.emits first e)
    (front_of_taken _ _ first _ _ _ _ _ t (c.verdicts.invariant.epoch first e) _ _ c.in_err-flush_if_many.ensures.streams))

pub verdicts-smaller : goal.verdicts-smaller
verdicts-smaller g c = c.in_ok-taken.ensures.taken.falls c.in-Committed.is

pub verdicts-preserved : goal.verdicts-preserved
verdicts-preserved g c =
    let t = subst (λ (x : Taken). TakesVerdict c.args.verdicts.now.key c.verdicts.verdicts.given c.verdicts.ledger c.take.new.ledger x c.verdicts.tally
    c.take.new.tally) c.in-Committed.is
    (subst (λ (k : EpochKey). TakesVerdict k c.verdicts.verdicts.given c.verdicts.ledger c.take.new.ledger c.in_ok-taken.taken c.verdicts.tally
    c.take.new.tally) c.verdicts.invariant.key (subst (λ (v : Coming). TakesVerdict v.key v.given c.verdicts.ledger c.take.new.ledger c.in_ok-taken.taken
    c.verdicts.tally c.take.new.tally) c.await_one.ensures c.in_ok-taken.ensures.taken)) in
    let balance = c.verdicts.invariant.tally in
    let left = c.verdicts.invariant.left in
    let counted = t.counted in
    let less = t.left in
    record {
      epoch = λ first e. subst (λ n. InEpoch c.args.verdicts.now.key n first c.take.new.ledger.committed c.take.new.ledger.account)
          (sym (c.in_ok-taken.ensures.given ∙ ap (λ (v : Coming). v.given + 1) c.await_one.ensures)) (t.stands first (c.verdicts.invariant.epoch first e));
      key = c.in_ok-taken.ensures.key ∙ ap (λ (v : Coming). v.key) c.await_one.ensures ∙ c.verdicts.invariant.key;
      tally = omega (arith, counted, balance);
      left = omega (arith, less, left);
      room = t.room;
      report = t.report ∙ ap (λ (x : RegionReport). record x { iterations = c.take.new.ledger.committed.count }) c.verdicts.invariant.report;
      why = t.why ∙ c.verdicts.invariant.why;
      emits = λ first e. emits_on _ _ _ _ _ _ (c.verdicts.invariant.emits first e)
          (emits_taken _ _ first _ _ _ _ _ t (c.verdicts.invariant.epoch first e) _ _ _ c.in_ok-flush_if_many.ensures.streams);
      faults = c.in_ok-flush_if_many.ensures.faults ∙ c.verdicts.invariant.faults;
    }

pub returns-in-Closed-clause-falls : goal.returns-in-Closed-clause-falls
returns-in-Closed-clause-falls g c =
    let less = c.in_ok-taken.ensures.taken.left in
    let left = c.verdicts.invariant.left in
    omega (arith, less, left)

pub returns-in-Unclean-clause-falls : goal.returns-in-Unclean-clause-falls
returns-in-Unclean-clause-falls g c =
    let less = c.in_ok-taken.ensures.taken.left in
    let left = c.verdicts.invariant.left in
    omega (arith, less, left)

pub returns-then-leaves-clause-falls : goal.returns-then-leaves-clause-falls
returns-then-leaves-clause-falls g c =
    let less = c.in_ok-taken.ensures.taken.falls c.in-Committed.is in
    let left = c.verdicts.invariant.left in
    omega (arith, less, left)

pub returns-then-leaves-clause-ran : goal.returns-then-leaves-clause-ran
returns-then-leaves-clause-ran g c =
    let t = subst (λ (x : Taken). TakesVerdict c.args.verdicts.now.key c.verdicts.verdicts.given c.verdicts.ledger c.take.new.ledger x c.verdicts.tally
    c.take.new.tally) c.in-Committed.is
    (subst (λ (k : EpochKey). TakesVerdict k c.verdicts.verdicts.given c.verdicts.ledger c.take.new.ledger c.in_ok-taken.taken c.verdicts.tally
    c.take.new.tally) c.verdicts.invariant.key (subst (λ (v : Coming). TakesVerdict v.key v.given c.verdicts.ledger c.take.new.ledger c.in_ok-taken.taken
    c.verdicts.tally c.take.new.tally) c.await_one.ensures c.in_ok-taken.ensures.taken)) in
    let balance = c.verdicts.invariant.tally in
    let left = c.verdicts.invariant.left in
    let counted = t.counted in
    let less = t.left in
    let hides = c.requires.leaving (c.leaves.ensures c.if-leaves.true) in
    record {
      faults_are = c.in_ok-flush_if_many.ensures.faults ∙ c.verdicts.invariant.faults;
      ends = λ first e. left_anywhere _ _ first _ _ (t.stands first (c.verdicts.invariant.epoch first e)) hides;
      streams = λ first e. emits_on _ _ _ _ _ _ (c.verdicts.invariant.emits first e)
          (emits_taken _ _ first _ _ _ _ _ t (c.verdicts.invariant.epoch first e) _ _ _ c.in_ok-flush_if_many.ensures.streams);
      report = t.report ∙ ap (λ (x : RegionReport). record x { iterations = c.take.new.ledger.committed.count }) c.verdicts.invariant.report;
      why = t.why ∙ c.verdicts.invariant.why;
      counted = omega (arith, counted, balance);
      room = t.room;
      left = omega (arith, less, left);
    }

pub returns-in-Closed-clause-ran : goal.returns-in-Closed-clause-ran
returns-in-Closed-clause-ran g c =
    let t = subst (λ (x : Taken). TakesVerdict c.args.verdicts.now.key c.verdicts.verdicts.given c.verdicts.ledger c.take.new.ledger x c.verdicts.tally
    c.take.new.tally) c.in-Closed.is
    (subst (λ (k : EpochKey). TakesVerdict k c.verdicts.verdicts.given c.verdicts.ledger c.take.new.ledger c.in_ok-taken.taken c.verdicts.tally
    c.take.new.tally) c.verdicts.invariant.key (subst (λ (v : Coming). TakesVerdict v.key v.given c.verdicts.ledger c.take.new.ledger c.in_ok-taken.taken
    c.verdicts.tally c.take.new.tally) c.await_one.ensures c.in_ok-taken.ensures.taken)) in
    let balance = c.verdicts.invariant.tally in
    let left = c.verdicts.invariant.left in
    let counted = t.counted in
    let less = t.left in
    record {
      faults_are = c.in_ok-flush_if_many.ensures.faults ∙ c.verdicts.invariant.faults;
      ends = λ first e. t.stands first (c.verdicts.invariant.epoch first e);
      streams = λ first e. emits_on _ _ _ _ _ _ (c.verdicts.invariant.emits first e)
          (emits_taken _ _ first _ _ _ _ _ t (c.verdicts.invariant.epoch first e) _ _ _ c.in_ok-flush_if_many.ensures.streams);
      report = t.report ∙ ap (λ (x : RegionReport). record x { iterations = c.take.new.ledger.committed.count }) c.verdicts.invariant.report;
      why = t.why ∙ c.verdicts.invariant.why;
      counted = omega (arith, counted, balance);
      room = t.room;
      left = omega (arith, less, left);
    }

pub returns-in-Unclean-clause-ran : goal.returns-in-Unclean-clause-ran
returns-in-Unclean-clause-ran g c =
    let t = subst (λ (x : Taken). TakesVerdict c.args.verdicts.now.key c.verdicts.verdicts.given c.verdicts.ledger c.take.new.ledger x c.verdicts.tally
    c.take.new.tally) c.in-Unclean.is
    (subst (λ (k : EpochKey). TakesVerdict k c.verdicts.verdicts.given c.verdicts.ledger c.take.new.ledger c.in_ok-taken.taken c.verdicts.tally
    c.take.new.tally) c.verdicts.invariant.key (subst (λ (v : Coming). TakesVerdict v.key v.given c.verdicts.ledger c.take.new.ledger c.in_ok-taken.taken
    c.verdicts.tally c.take.new.tally) c.await_one.ensures c.in_ok-taken.ensures.taken)) in
    let balance = c.verdicts.invariant.tally in
    let left = c.verdicts.invariant.left in
    let counted = t.counted in
    let less = t.left in
    record {
      faults_are = c.in_ok-flush_if_many.ensures.faults ∙ c.verdicts.invariant.faults;
      ends = λ first e. t.stands first (c.verdicts.invariant.epoch first e);
      streams = λ first e. emits_on _ _ _ _ _ _ (c.verdicts.invariant.emits first e)
          (emits_taken _ _ first _ _ _ _ _ t (c.verdicts.invariant.epoch first e) _ _ _ c.in_ok-flush_if_many.ensures.streams);
      report = t.report ∙ ap (λ (x : RegionReport). record x { iterations = c.take.new.ledger.committed.count }) c.verdicts.invariant.report;
      why = t.why ∙ c.verdicts.invariant.why;
      counted = omega (arith, counted, balance);
      room = t.room;
      left = omega (arith, less, left);
    }

pub verdicts-init : goal.verdicts-init
verdicts-init g c = record {
  epoch = λ first e. e;
  key = refl;
  tally = refl;
  left = omega arith;
  room = c.requires.room;
  report = report_here _ _ _ _ _ c.requires.epoch.1;
  why = refl;
  emits = λ first e. emits_nothing _ _;
  faults = refl;
}
