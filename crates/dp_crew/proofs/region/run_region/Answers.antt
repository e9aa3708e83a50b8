use Rattle.std.proofs.Common.{Bool, [], refl, ap, ◌∙◌}
use Rattle.dp_semantics.specs.Reported.{region_report}
use Rattle.dp_edge.proofs.FrontLemmas.{front_nothing}
use Rattle.dp_epoch.specs.Accounts.{told_when}
use Rattle.dp_epoch.specs.RegionRun.{region_run}
use Rattle.dp_epoch.specs.declared.account.Account.{Account}
use Rattle.dp_epoch.proofs.RegionLemmas.{none_yet, region_ran, region_reported}
use Rattle.dp_crew.proofs.WholeRegion.{begins_so, done_so, emits_so, front_so, region_flush_front, region_front, region_written}
use Rattle.dp_crew.proofs.region.run_region.Goals as goal
use Rattle.dp_room.proofs.ResultLemmas.{on_err}

pub run_together-requires-clause-start : goal.run_together-requires-clause-start
run_together-requires-clause-start g c κs within = (
  c.args.machine,
  begins_so _ _ c.new-work.ensures.region _ _ c.new-work.ensures.input c.args.machine c.requires.start c.program.ensures.planned
      c.program.result.now c.program.ensures.value c.plan-plan.result.now c.plan-plan.ensures c.in_ok-begun.begun.committed c.in_ok-begun.ensures.committed
      c.in_ok-begun.begun.account c.args.why c.in_ok-begun.ensures.account,
)

pub returns-in_err-made-clause-front : goal.returns-in_err-made-clause-front
returns-in_err-made-clause-front g c = on_err c.from_residual.result _ (front_nothing _ _ _ refl)

pub returns-in_err-begun-clause-front : goal.returns-in_err-begun-clause-front
returns-in_err-begun-clause-front g c = on_err c.from_residual-in_err-begun.result _ (front_nothing _ _ _ refl)

pub returns-in_err-ledger-clause-front : goal.returns-in_err-ledger-clause-front
returns-in_err-ledger-clause-front g c =
    let begins = begins_so _ _ c.new-work.ensures.region _ _ c.new-work.ensures.input c.args.machine c.requires.start c.program.ensures.planned
    c.program.result.now c.program.ensures.value c.plan-plan.result.now c.plan-plan.ensures c.in_ok-begun.begun.committed c.in_ok-begun.ensures.committed
    c.in_ok-begun.begun.account c.args.why c.in_ok-begun.ensures.account in
    let none = none_yet c.args.machine c.in_ok-begun.begun.committed c.args.region.now.plan.region c.requires.start.next c.in_ok-begun.ensures.committed in
    on_err c.from_residual-in_err-ledger.result _ (region_front c.args.region.now.plan c.args.machine c.in_ok-begun.begun.waiting c.in_ok-begun.ensures.waiting
    c.in_ok-begun.begun.committed.count none _ _ (front_so _ _ c.new-work.ensures.region c.args.machine c.in_ok-begun.begun.waiting
    c.in_ok-begun.begun.committed.count _ _ (c.in_err-ledger.ensures.streams c.args.machine begins)))

pub returns-in_err-machine-clause-front : goal.returns-in_err-machine-clause-front
returns-in_err-machine-clause-front g c =
    let begins = begins_so _ _ c.new-work.ensures.region _ _ c.new-work.ensures.input c.args.machine c.requires.start c.program.ensures.planned
    c.program.result.now c.program.ensures.value c.plan-plan.result.now c.plan-plan.ensures c.in_ok-begun.begun.committed c.in_ok-begun.ensures.committed
    c.in_ok-begun.begun.account c.args.why c.in_ok-begun.ensures.account in
    let none = none_yet c.args.machine c.in_ok-begun.begun.committed c.args.region.now.plan.region c.requires.start.next c.in_ok-begun.ensures.committed in
    on_err c.from_residual-in_err-machine.result _ (region_flush_front c.args.region.now.plan c.args.machine c.in_ok-begun.begun.waiting
    c.in_ok-begun.ensures.waiting c.in_ok-begun.begun.committed.count none c.in_ok-ledger.ledger.waiting _ _
    (emits_so _ _ c.new-work.ensures.region c.args.machine c.in_ok-begun.begun.waiting c.in_ok-begun.begun.committed.count _ _ _
    (c.in_ok-ledger.ensures.streams c.args.machine begins)) _ c.in_err-machine.ensures.streams)

pub returns-clause-ran : goal.returns-clause-ran
returns-clause-ran g c =
    let begins = begins_so _ _ c.new-work.ensures.region _ _ c.new-work.ensures.input c.args.machine c.requires.start c.program.ensures.planned
    c.program.result.now c.program.ensures.value c.plan-plan.result.now c.plan-plan.ensures c.in_ok-begun.begun.committed c.in_ok-begun.ensures.committed
    c.in_ok-begun.begun.account c.args.why c.in_ok-begun.ensures.account in
    region_ran c.args.region.now.program c.args.region.now.plan c.args.input.now c.args.machine c.requires.start c.in_ok-ledger.ledger.committed
    c.in_ok-ledger.ledger.account c.in_ok-ledger.end c.in_ok-machine.machine (done_so _ _ c.new-work.ensures.region _ _ _ _
    (c.in_ok-ledger.ensures.ok c.args.machine begins)) c.in_ok-machine.ensures.machine

pub returns-clause-report : goal.returns-clause-report
returns-clause-report g c =
    let begins = begins_so _ _ c.new-work.ensures.region _ _ c.new-work.ensures.input c.args.machine c.requires.start c.program.ensures.planned
    c.program.result.now c.program.ensures.value c.plan-plan.result.now c.plan-plan.ensures c.in_ok-begun.begun.committed c.in_ok-begun.ensures.committed
    c.in_ok-begun.begun.account c.args.why c.in_ok-begun.ensures.account in
    let asked = c.in_ok-ledger.ensures.why ∙ ap (λ (a : Account). a.why) c.in_ok-begun.ensures.account in
    c.in_ok-machine.ensures.report
    ∙ region_reported c.args.region.now.program c.args.region.now.plan c.args.input.now c.args.machine c.requires.start c.in_ok-ledger.ledger.committed
    c.in_ok-ledger.ledger.account c.in_ok-ledger.end (done_so _ _ c.new-work.ensures.region _ _ _ _ (c.in_ok-ledger.ensures.ok c.args.machine begins))
    ∙ ap (λ (why : Bool). told_when why (region_report c.args.region.now.program c.args.region.now.plan (region_run c.args.machine))) asked

pub returns-clause-written : goal.returns-clause-written
returns-clause-written g c =
    let begins = begins_so _ _ c.new-work.ensures.region _ _ c.new-work.ensures.input c.args.machine c.requires.start c.program.ensures.planned
    c.program.result.now c.program.ensures.value c.plan-plan.result.now c.plan-plan.ensures c.in_ok-begun.begun.committed c.in_ok-begun.ensures.committed
    c.in_ok-begun.begun.account c.args.why c.in_ok-begun.ensures.account in
    let none = none_yet c.args.machine c.in_ok-begun.begun.committed c.args.region.now.plan.region c.requires.start.next c.in_ok-begun.ensures.committed in
    region_written c.args.region.now.plan c.args.machine c.in_ok-begun.begun.waiting c.in_ok-begun.ensures.waiting c.in_ok-begun.begun.committed.count none
    c.in_ok-ledger.ledger.waiting _ _ (emits_so _ _ c.new-work.ensures.region c.args.machine c.in_ok-begun.begun.waiting c.in_ok-begun.begun.committed.count _ _
    _ (c.in_ok-ledger.ensures.streams c.args.machine begins)) _ [] refl c.in_ok-machine.ensures.streams
