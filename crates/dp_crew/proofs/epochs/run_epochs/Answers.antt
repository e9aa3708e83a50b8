use Rattle.std.proofs.Common.{◌∙◌, refl, ap, subst, Option, arith}
use Rattle.dp_base.specs.declared.RegionReport.{RegionReport}
use Rattle.dp_epoch.specs.declared.ends.RegionEnd.{RegionEnd}
use Rattle.dp_epoch.proofs.Counting.{told_begun}
use Rattle.dp_epoch.specs.InEpoch.{AfterRecovery, left_by_epoch, left_by_recovery}
use Rattle.dp_crew.specs.Output.{Emits}
use Rattle.dp_crew.proofs.StreamLemmas.{streams_stopped, emits_front, emits_nothing, emits_on}
use Rattle.dp_crew.proofs.EpochRuns.{failed_so}
use Rattle.dp_crew.proofs.epochs.run_epochs.Goals as goal

pub epochs-init : goal.epochs-init
epochs-init g c = record { begins = λ first b. b; tally = omega arith; why = refl; room = c.requires.room; emits = λ first b. emits_nothing _ _; faults = refl }

pub run_one_epoch-requires-clause-epoch : goal.run_one_epoch-requires-clause-epoch
run_one_epoch-requires-clause-epoch g c κs within = (c.requires.start.0, c.epochs.invariant.begins c.requires.start.0 c.requires.start.1)

pub recover-requires-clause-ended : goal.recover-requires-clause-ended
recover-requires-clause-ended g c = (
  c.args.work.region.now.plan,
  c.requires.start.0,
  c.in_ok-after.ensures.ran.ends c.requires.start.0 (c.epochs.invariant.begins c.requires.start.0
      c.requires.start.1),
)

pub recover-requires-clause-sink : goal.recover-requires-clause-sink
recover-requires-clause-sink g c =
    let same = c.in_ok-after.ensures.ran.faults_are in
    let before = c.epochs.invariant.faults in
    let low = c.requires.sink in
    omega (arith, same, before, low)

pub returns-in_err-after-clause-faults : goal.returns-in_err-after-clause-faults
returns-in_err-after-clause-faults g c =
    failed_so c.from_residual.result _ _ _ _ c.from_residual.ensures.1 c.in_err-after.ensures.ran.faults_are c.epochs.invariant.faults

pub returns-in_err-next-clause-faults : goal.returns-in_err-next-clause-faults
returns-in_err-next-clause-faults g c =
    failed_so c.from_residual-in_err-next.result _ _ _ _ c.from_residual-in_err-next.ensures.1 c.in_err-next.ensures.faults
    (c.in_ok-after.ensures.ran.faults_are ∙ c.epochs.invariant.faults)

pub returns-in-Some-clause-faults : goal.returns-in-Some-clause-faults
returns-in-Some-clause-faults g c = c.in_ok-next.ensures.faults ∙ c.in_ok-after.ensures.ran.faults_are ∙ c.epochs.invariant.faults

pub returns-in-Some-clause-tally : goal.returns-in-Some-clause-tally
returns-in-Some-clause-tally g c =
    let a = (c.epochs.invariant.begins c.requires.start.0 c.requires.start.1).at_epoch in
    let ran = c.in_ok-after.ensures.ran in
    let here = ap (λ (x : RegionReport). x.iterations) a.progress.report_is ∙ told_begun c.epochs.ledger.account.why _ in
    let iterations = ap (λ (x : RegionReport). x.iterations) ran.report in
    let same = ap (λ (x : RegionReport). x.recovered_count) ran.report in
    let raised = ran.counted in
    let balance = c.epochs.invariant.tally in
    let counts = c.in_ok-next.ensures.counts in
    omega (arith, here, iterations, same, raised, balance, counts)

pub returns-in_err-after-clause-streams : goal.returns-in_err-after-clause-streams
returns-in_err-after-clause-streams g c first b =
    streams_stopped _ _ _ _ _ c.from_residual.ensures.0 (emits_front _ _ _ _ _ (c.epochs.invariant.emits first b)
    (c.in_err-after.ensures.ran.streams first (c.epochs.invariant.begins first b)))

pub returns-in_err-next-clause-streams : goal.returns-in_err-next-clause-streams
returns-in_err-next-clause-streams g c first b =
    let ran = c.in_ok-after.ensures.ran in
    let here = c.epochs.invariant.begins first b in
    streams_stopped _ _ _ _ _ c.from_residual-in_err-next.ensures.0
    (emits_front _ _ _ _ _ (emits_on _ _ _ _ _ _ (c.epochs.invariant.emits first b) (ran.streams first here))
    (c.in_err-next.ensures.streams c.args.work.region.now.plan first (ran.ends first here)))

pub returns-in-Some-clause-ok : goal.returns-in-Some-clause-ok
returns-in-Some-clause-ok g c first b =
    subst (λ (x : Option RegionEnd). AfterRecovery c.args.work.region.now.plan first c.in_ok-next.next.committed c.in_ok-next.next.account x) c.in-Some.is
    (c.in_ok-next.ensures.ok c.args.work.region.now.plan first (c.in_ok-after.ensures.ran.ends first (c.epochs.invariant.begins first b)))

pub returns-in-Some-clause-streams : goal.returns-in-Some-clause-streams
returns-in-Some-clause-streams g c first b =
    let ran = c.in_ok-after.ensures.ran in
    let here = c.epochs.invariant.begins first b in
    emits_on _ _ _ _ _ _ (emits_on _ _ _ _ _ _ (c.epochs.invariant.emits first b) (ran.streams first here))
    (subst (λ (x : Option RegionEnd). Emits (left_by_epoch c.args.work.region.now.plan first c.in_ok-after.after.waiting c.in_ok-after.after.committed.count
    c.in_ok-after.end) (left_by_recovery c.args.work.region.now.plan first c.in_ok-next.next.waiting c.in_ok-next.next.committed.count x)
    (g.K.Sink.written c.run_one_epoch.new.sink) (g.K.Sink.written c.recover.new.sink))
    c.in-Some.is (c.in_ok-next.ensures.streams c.args.work.region.now.plan first (ran.ends first here)))

pub epochs-preserved : goal.epochs-preserved
epochs-preserved g c =
    let a = (c.epochs.invariant.begins c.requires.start.0 c.requires.start.1).at_epoch in
    let ran = c.in_ok-after.ensures.ran in
    let here = ap (λ (x : RegionReport). x.iterations) a.progress.report_is ∙ told_begun c.epochs.ledger.account.why _ in
    let iterations = ap (λ (x : RegionReport). x.iterations) ran.report in
    let same = ap (λ (x : RegionReport). x.recovered_count) ran.report in
    let raised = ran.counted in
    let balance = c.epochs.invariant.tally in
    let counts = c.in_ok-next.ensures.counts in
    let less = c.in_ok-next.ensures.left c.in-None.is in
    let room = ran.room in
    record {
      begins = λ first b. record {
        at_epoch = subst (λ (x : Option RegionEnd). AfterRecovery c.args.work.region.now.plan first c.in_ok-next.next.committed
            c.in_ok-next.next.account x) c.in-None.is
            (c.in_ok-next.ensures.ok c.args.work.region.now.plan first (ran.ends first (c.epochs.invariant.begins first b)));
        program_is = b.program_is;
        input_is = b.input_is;
      };
      tally = omega (arith, here, iterations, same, raised, balance, counts);
      why = c.in_ok-next.ensures.why ∙ ran.why ∙ c.epochs.invariant.why;
      room = omega (arith, less, room);
      emits = λ first b. emits_on _ _ _ _ _ _ (emits_on _ _ _ _ _ _ (c.epochs.invariant.emits first b) (ran.streams first (c.epochs.invariant.begins first b)))
          (subst (λ (x : Option RegionEnd). Emits (left_by_epoch c.args.work.region.now.plan first c.in_ok-after.after.waiting
          c.in_ok-after.after.committed.count c.in_ok-after.end) (left_by_recovery c.args.work.region.now.plan first c.in_ok-next.next.waiting
          c.in_ok-next.next.committed.count x) (g.K.Sink.written c.run_one_epoch.new.sink) (g.K.Sink.written c.recover.new.sink))
          c.in-None.is (c.in_ok-next.ensures.streams c.args.work.region.now.plan first (ran.ends first (c.epochs.invariant.begins first b))));
      faults = c.in_ok-next.ensures.faults ∙ ran.faults_are ∙ c.epochs.invariant.faults;
    }

pub epochs-smaller : goal.epochs-smaller
epochs-smaller g c =
    let less = c.in_ok-next.ensures.left c.in-None.is in
    let falls = c.in_ok-after.ensures.falls in
    omega (arith, less, falls)

pub returns-in-Some-clause-why : goal.returns-in-Some-clause-why
returns-in-Some-clause-why g c = c.in_ok-next.ensures.why ∙ c.in_ok-after.ensures.ran.why ∙ c.epochs.invariant.why
