use Rattle.std.proofs.Common.{◌∙◌, sym, ap, subst, ◌<◌, ◌≤◌, rules, arith}
use Rattle.dp_base.specs.declared.RegionReport.{RegionReport}
use Rattle.dp_semantics.specs.Recovery.{is_recovered}
use Rattle.dp_commit.specs.CommittedState.{region_run}
use Rattle.dp_epoch.specs.declared.account.Account.{Account}
use Rattle.dp_epoch.specs.declared.ledger.Ledger.{Ledger}
use Rattle.dp_epoch.specs.Applied.{steps_left}
use Rattle.dp_epoch.specs.InEpoch.{AfterRecovery, left_by_recovery}
use Rattle.dp_epoch.specs.Prints.{prints_to_come}
use Rattle.dp_epoch.proofs.Counting.{again_few, told_count}
use Rattle.dp_epoch.proofs.Recovering.{CountedRecovered, counts_begun, counts_unbegun, recovered, recovered_counts, recovered_left}
use Rattle.dp_crew.specs.Output.{Emits}
use Rattle.dp_crew.proofs.StreamLemmas.{streams_stopped}
use Rattle.dp_crew.proofs.Recovered.{recovery_front, recovery_emits, recovery_stopped}
use Rattle.dp_crew.proofs.epochs.recover_iteration.Goals as goal

pub returns-in_err-end-clause-streams : goal.returns-in_err-end-clause-streams
returns-in_err-end-clause-streams g c plan first u =
    let s = c.in_err-end.ensures.err in
    streams_stopped _ _ _ _ _ c.from_residual.ensures.0 (recovery_front plan first c.args.ledger.now.committed c.args.ledger.now.account u.progress
    c.args.ledger.now.waiting s.0 _ _ s.1 s.2)

pub count_again-requires-clause-again : goal.count_again-requires-clause-again
count_again-requires-clause-again g c =
    let u = c.requires.unclean in
    let few = again_few (is_recovered u.1.program u.0 (region_run u.1)) 0 c.args.ledger.now.committed.count in
    let told = ap (λ (x : RegionReport). x.recovered_count) u.2.progress.report_is ∙ told_count c.args.ledger.now.account.why _ in
    let size = ap (λ (x : Account). x.report.recovered_count) c.in_ok-end.ensures.account ∙ told in
    let low = c.count-number.ensures.steps u.2.progress.is_open.sound in
    let begun : c.steps.result < c.fuel.result = search rules in
    let steps = c.steps.ensures.value in
    let fits = c.fuel.type_inv in
    omega (arith, few, size, low, begun, steps, fits)

pub returns-in_err-count_again-clause-streams : goal.returns-in_err-count_again-clause-streams
returns-in_err-count_again-clause-streams g c plan first u =
    let s = c.in_ok-end.ensures.ok in
    streams_stopped _ _ _ _ _ c.from_residual-in_err-count_again.ensures.0
    (recovery_stopped plan first c.args.ledger.now.committed c.args.ledger.now.account u.progress c.args.ledger.now.waiting s.0 _ _
    c.recover_to_end.new.ledger.committed c.in_ok-end.end s.1 c.recover_to_end.new.ledger.waiting s.2)

pub returns-in_ok-count_again-clause-ok : goal.returns-in_ok-count_again-clause-ok
returns-in_ok-count_again-clause-ok g c plan first u =
    let s = c.in_ok-end.ensures in
    let begun : c.steps.result < c.fuel.result = search rules in
    let steps = c.steps.ensures.value in
    let fuel = c.fuel.ensures in
    let counted : CountedRecovered c.args.ledger.now.committed c.args.ledger.now.account c.count_again.new.self.account
    c.recover_to_end.new.ledger.account.views c.in_ok-end.end =
    counts_begun _ _ _ _ _ _ c.count-number.ensures.value s.account c.in_ok-count_again.ensures.ok (omega (arith, begun, steps, fuel)) in
    subst (λ (x : Ledger). AfterRecovery plan first x.committed c.count_again.new.self.account c.in_ok-end.end) (sym c.in_ok-count_again.ensures.rest)
    (recovered plan first c.args.ledger.now.committed c.args.ledger.now.account u.progress u.again c.count_again.new.self.account
    c.recover_to_end.new.ledger.account.views c.recover_to_end.new.ledger.committed s.ok.0 c.in_ok-end.end s.ok.1 s.heard counted)

pub returns-in_ok-count_again-clause-streams : goal.returns-in_ok-count_again-clause-streams
returns-in_ok-count_again-clause-streams g c plan first u =
    let s = c.in_ok-end.ensures.ok in
    subst (λ (x : Ledger). Emits (prints_to_come plan first c.args.ledger.now.waiting c.args.ledger.now.committed.count)
    (left_by_recovery plan first x.waiting x.committed.count c.in_ok-end.end) (g.K.Sink.written c.args.sink.now) (g.K.Sink.written c.recover_to_end.new.sink))
    (sym c.in_ok-count_again.ensures.rest)
    (recovery_emits plan first c.args.ledger.now.committed c.args.ledger.now.account u.progress c.args.ledger.now.waiting s.0 _ _
    c.recover_to_end.new.ledger.committed c.in_ok-end.end s.1 c.recover_to_end.new.ledger.waiting s.2)

pub returns-in_ok-count_again-clause-counts : goal.returns-in_ok-count_again-clause-counts
returns-in_ok-count_again-clause-counts g c =
    let u = c.requires.unclean in
    let s = c.in_ok-end.ensures in
    let begun : c.steps.result < c.fuel.result = search rules in
    let steps = c.steps.ensures.value in
    let fuel = c.fuel.ensures in
    let counted : CountedRecovered c.args.ledger.now.committed c.args.ledger.now.account c.count_again.new.self.account
    c.recover_to_end.new.ledger.account.views c.in_ok-end.end =
    counts_begun _ _ _ _ _ _ c.count-number.ensures.value s.account c.in_ok-count_again.ensures.ok (omega (arith, begun, steps, fuel)) in
    recovered_counts u.0 u.1 c.args.ledger.now.committed c.args.ledger.now.account u.2.progress u.2.again c.recover_to_end.new.ledger.committed s.ok.0
    c.in_ok-end.end s.ok.1 c.count_again.new.self.account c.recover_to_end.new.ledger.account.views s.heard counted (omega (arith, begun, steps, fuel))

pub returns-in_ok-count_again-clause-left : goal.returns-in_ok-count_again-clause-left
returns-in_ok-count_again-clause-left g c none =
    let u = c.requires.unclean in
    let s = c.in_ok-end.ensures.ok in
    subst (λ (x : Ledger). steps_left x.committed < steps_left c.args.ledger.now.committed) (sym c.in_ok-count_again.ensures.rest)
    (recovered_left u.0 u.1 c.args.ledger.now.committed c.args.ledger.now.account u.2.progress c.recover_to_end.new.ledger.committed s.0
    c.in_ok-end.end s.1 none)

pub returns-in_ok-count_again-clause-why : goal.returns-in_ok-count_again-clause-why
returns-in_ok-count_again-clause-why g c = c.in_ok-count_again.ensures.ok.why ∙ ap (λ (a : Account). a.why) c.in_ok-end.ensures.account

pub returns-else-begun-clause-ok : goal.returns-else-begun-clause-ok
returns-else-begun-clause-ok g c plan first u =
    let s = c.in_ok-end.ensures in
    let unbegun : c.fuel.result ≤ c.steps.result = search rules in
    let steps = c.steps.ensures.value in
    let fuel = c.fuel.ensures in
    let counted : CountedRecovered c.args.ledger.now.committed c.args.ledger.now.account c.recover_to_end.new.ledger.account
    c.recover_to_end.new.ledger.account.views c.in_ok-end.end =
    counts_unbegun _ _ _ _ s.account (omega (arith, unbegun, steps, fuel)) in
    recovered plan first c.args.ledger.now.committed c.args.ledger.now.account u.progress u.again c.recover_to_end.new.ledger.account
    c.recover_to_end.new.ledger.account.views c.recover_to_end.new.ledger.committed s.ok.0 c.in_ok-end.end s.ok.1 s.heard counted

pub returns-else-begun-clause-streams : goal.returns-else-begun-clause-streams
returns-else-begun-clause-streams g c plan first u =
    let s = c.in_ok-end.ensures.ok in
    recovery_emits plan first c.args.ledger.now.committed c.args.ledger.now.account u.progress c.args.ledger.now.waiting s.0 _ _
    c.recover_to_end.new.ledger.committed c.in_ok-end.end s.1 c.recover_to_end.new.ledger.waiting s.2

pub returns-else-begun-clause-counts : goal.returns-else-begun-clause-counts
returns-else-begun-clause-counts g c =
    let same = c.in_ok-end.ensures.account in
    let begun = ap (λ (x : Account). x.report.iterations) same in
    let size = ap (λ (x : Account). x.report.recovered_count) same in
    omega (arith, begun, size)

pub returns-else-begun-clause-left : goal.returns-else-begun-clause-left
returns-else-begun-clause-left g c none =
    let u = c.requires.unclean in
    let s = c.in_ok-end.ensures.ok in
    recovered_left u.0 u.1 c.args.ledger.now.committed c.args.ledger.now.account u.2.progress c.recover_to_end.new.ledger.committed s.0 c.in_ok-end.end s.1 none

pub returns-else-begun-clause-why : goal.returns-else-begun-clause-why
returns-else-begun-clause-why g c = ap (λ (a : Account). a.why) c.in_ok-end.ensures.account
