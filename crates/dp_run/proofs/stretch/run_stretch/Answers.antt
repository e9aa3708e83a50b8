use Rattle.std.proofs.Common.{◌≡◌, ◌∙◌, refl, subst, suc, ◌++◌, ◌∷◌, []}
use Rattle.std.proofs.lemmas.Result.{IfOk-weaker, on_err_weaker}
use Rattle.dp_base.specs.declared.RegionReport.{RegionReport}
use Rattle.dp_crew.proofs.StreamLemmas.{emits_front, emits_on, emits_stopped}
use Rattle.dp_run.proofs.Regions.{after_region, region_start}
use Rattle.dp_run.proofs.RegionCalls.{ran_before, ran_before_nothing, ran_emits, report_of_run, stopped_before, stopped_front, tally_whole}
use Rattle.dp_run.proofs.stretch.run_stretch.Goals as goal
use Rattle.dp_crew.proofs.Answering.{on_ok}
use Rattle.dp_room.proofs.ResultLemmas.{on_err}

pub run_region-requires-clause-start : goal.run_region-requires-clause-start
run_region-requires-clause-start g c κs within =
    let b = c.requires.between in region_start c.args.region.now.program c.args.region.now.plan c.args.input.now c.args.machine.fuel b.0 b.1 c.args.machine
    c.number.ensures.planned b.2 b.3

pub returns-in_err-next-clause-front : goal.returns-in_err-next-clause-front
returns-in_err-next-clause-front g c =
    let b = c.requires.between in
    on_err c.from_residual.result _ (stopped_front c.args.region.now.program c.args.region.now.plan c.args.input.now c.args.machine.fuel b.0 b.1 c.args.machine
    c.number.ensures.planned b.2 b.3 _ _ c.in_err-next.ensures.front)

pub returns-in_err-push-clause-front : goal.returns-in_err-push-clause-front
returns-in_err-push-clause-front g c =
    on_err c.from_residual-in_err-push.result _
    (emits_stopped _ _ _ _ (ran_emits c.args.region.now.program c.args.region.now.plan c.args.machine c.in_ok-next.next c.in_ok-next.end _ _
    c.in_ok-next.ensures.ran c.in_ok-next.ensures.written))

pub returns-clause-ok : goal.returns-clause-ok
returns-clause-ok g c =
    IfOk-weaker c.finish_stretch.result _ _
    (λ ran h run n number between.
    h c.args.region.now.program c.args.input.now c.args.machine.fuel run (suc n)
    (after_region c.args.region.now.program c.args.region.now.plan c.args.input.now c.args.machine.fuel run n c.args.machine c.number.ensures.planned number
    between c.in_ok-next.next c.in_ok-next.end c.in_ok-next.ensures.ran))
    c.finish_stretch.ensures.ok

pub returns-clause-written : goal.returns-clause-written
returns-clause-written g c =
    IfOk-weaker c.finish_stretch.result _ _
    (λ ran e. emits_on _ _ _ _ _ _ (ran_emits c.args.region.now.program c.args.region.now.plan c.args.machine c.in_ok-next.next c.in_ok-next.end _ _
    c.in_ok-next.ensures.ran c.in_ok-next.ensures.written) e)
    c.finish_stretch.ensures.written

pub returns-clause-front : goal.returns-clause-front
returns-clause-front g c =
    on_err_weaker c.finish_stretch.result
    (λ w. emits_front _ _ _ _ _ (ran_emits c.args.region.now.program c.args.region.now.plan c.args.machine c.in_ok-next.next c.in_ok-next.end _ _
    c.in_ok-next.ensures.ran c.in_ok-next.ensures.written) w)
    c.finish_stretch.ensures.front

pub returns-clause-report : goal.returns-clause-report
returns-clause-report g c =
    on_ok c.finish_stretch.result _ (λ run n number between.
    subst (λ (x : RegionReport). c.push.new.self ≡ c.args.reports.now ++ x ∷ [])
    (report_of_run c.args.region.now.program c.args.region.now.plan c.args.input.now c.args.machine.fuel run n c.args.machine c.number.ensures.planned number
    between c.args.why c.run_region.new.report c.in_ok-next.ensures.report) c.in_ok-push.ensures.ok)

pub returns-clause-tally : goal.returns-clause-tally
returns-clause-tally g c =
    on_ok c.finish_stretch.result _ (λ run n number between.
    c.finish_stretch.ensures.tally ∙ tally_whole c.args.region.now.program c.args.region.now.plan c.args.input.now c.args.machine.fuel run n c.args.machine
    c.number.ensures.planned number between c.args.why c.run_region.new.report _ _ c.in_ok-next.ensures.report c.in_ok-next.ensures.tally)

pub returns-in_err-next-clause-before : goal.returns-in_err-next-clause-before
returns-in_err-next-clause-before g c =
    let b = c.requires.between in
    on_err c.from_residual.result _ (stopped_before c.args.region.now.program c.args.region.now.plan c.args.input.now c.args.machine.fuel b.0 b.1 c.args.machine
    c.number.ensures.planned b.2 b.3 _ _ c.in_err-next.ensures.front)

pub returns-in_err-push-clause-before : goal.returns-in_err-push-clause-before
returns-in_err-push-clause-before g c =
    on_err c.from_residual-in_err-push.result _
    (ran_before_nothing c.args.region.now.program c.args.region.now.plan c.args.machine c.in_ok-next.next c.in_ok-next.end _ _ _ c.in_ok-next.ensures.ran
    c.in_ok-next.ensures.written refl)

pub returns-clause-before : goal.returns-clause-before
returns-clause-before g c =
    on_err_weaker c.finish_stretch.result
    (λ f. ran_before c.args.region.now.program c.args.region.now.plan c.args.machine c.in_ok-next.next c.in_ok-next.end _ _ _ c.in_ok-next.ensures.ran
    c.in_ok-next.ensures.written f)
    c.finish_stretch.ensures.before
