use Rattle.std.proofs.Common.{◌≤◌, false, length, refl, sym, subst, arith}
use Rattle.std.proofs.lemmas.List.{length-map}
use Rattle.dp_room.proofs.ResultLemmas.{on_err}
use Rattle.dp_edge.proofs.FrontLemmas.{front_nothing}
use Rattle.dp_tree.specs.declared.Program.{Program}
use Rattle.dp_run.specs.Prepared.{AreOf, plan_in, plans_in}
use Rattle.dp_run.specs.RunText.{source_run}
use Rattle.dp_run.proofs.WholePrepared.{start_there}
use Rattle.dp_resume.proofs.RestLemmas.{listed_here}
use Rattle.dp_resume.proofs.SaveWhole.{ahead_first, between_next, between_there, fuel_there, next_err, next_ok, over_before, over_err, over_ok, program_here}
use Rattle.dp_resume.proofs.SaveWhole.{reports_there, went_none, went_some, whole_err, whole_ok}
use Rattle.dp_resume.proofs.SaveFronts.{stopped_before}
use Rattle.dp_resume.proofs.save.save_program.Goals as goal

pub returns-then-place-region_count-clause-ok : goal.returns-then-place-region_count-clause-ok
returns-then-place-region_count-clause-ok g c = whole_ok c.args.prepared.now.program c.args.prepared.now.plans c.program-program.ensures.given c.args.input.now
    c.args.fuel c.args.place.region c.args.place.after (omega arith) (g.K.Sink.written c.args.sink.now) (g.K.Sink.written c.run_whole.new.sink)
    c.run_whole.result c.run_whole.ensures.ok

pub returns-then-place-region_count-clause-err : goal.returns-then-place-region_count-clause-err
returns-then-place-region_count-clause-err g c = whole_err c.args.prepared.now.program c.args.prepared.now.plans c.program-program.ensures.given
    c.args.input.now c.args.fuel c.args.place.region c.args.place.after (omega arith) (g.K.Sink.written c.args.sink.now) (g.K.Sink.written c.run_whole.new.sink)
    c.run_whole.result c.run_whole.ensures.err

pub returns-in_err-machine-clause-err : goal.returns-in_err-machine-clause-err
returns-in_err-machine-clause-err g c = on_err c.from_residual.result _ (front_nothing _ _ _ refl)

pub run_parts-requires-clause-ahead : goal.run_parts-requires-clause-ahead
run_parts-requires-clause-ahead g c κs within =
    let p = c.args.prepared.now.program in let plans = c.args.prepared.now.plans in let given = c.program-program.ensures.given in
    let input = c.args.input.now in let fuel = c.args.fuel in let r = c.args.place.region in let after = c.args.place.after in
    let m = c.in_ok-machine.machine in let start = start_there p plans input fuel false given c.program-program.result.now c.program-program.ensures.program m
    c.in_ok-machine.ensures in
    let low = c.requires.region in let high : c.args.place.region ≤ length c.args.prepared.now.plans = omega arith in
    let before = plans_in c.regions_before-before.result.now in let before_is = c.regions_before-before.ensures.plans in
    (source_run p input fuel, 0, ahead_first p plans given input fuel r after m start low high before before_is)

pub run_parts-requires-clause-regions : goal.run_parts-requires-clause-regions
run_parts-requires-clause-regions g c κs within =
    let p = c.args.prepared.now.program in let plans = c.args.prepared.now.plans in let given = c.program-program.ensures.given in
    let input = c.args.input.now in let fuel = c.args.fuel in let r = c.args.place.region in let after = c.args.place.after in
    let m = c.in_ok-machine.machine in let start = start_there p plans input fuel false given c.program-program.result.now c.program-program.ensures.program m
    c.in_ok-machine.ensures in
    subst (λ (q : Program). AreOf q c.regions_before-before.result.now) (sym (program_here p plans given input fuel r after m start))
    c.regions_before-before.ensures.own

pub returns-in_err-machine-2-clause-err : goal.returns-in_err-machine-2-clause-err
returns-in_err-machine-2-clause-err g c =
    let p = c.args.prepared.now.program in let plans = c.args.prepared.now.plans in let given = c.program-program.ensures.given in
    let input = c.args.input.now in let fuel = c.args.fuel in let r = c.args.place.region in let after = c.args.place.after in
    let m = c.in_ok-machine.machine in let start = start_there p plans input fuel false given c.program-program.result.now c.program-program.ensures.program m
    c.in_ok-machine.ensures in
    let low = c.requires.region in let high : c.args.place.region ≤ length c.args.prepared.now.plans = omega arith in
    let before = plans_in c.regions_before-before.result.now in let before_is = c.regions_before-before.ensures.plans in
    let regions = c.regions_before-before.result.now in
    on_err c.from_residual-in_err-machine-2.result _ (stopped_before p plans given input fuel r after m start low high before before_is regions
    (sym (length-map regions plan_in)) (g.K.Sink.written c.args.sink.now) (g.K.Sink.written c.run_parts.new.sink) c.in_err-machine-2.ensures.front
    c.in_err-machine-2.ensures.before)

pub finish-requires-clause-listed : goal.finish-requires-clause-listed
finish-requires-clause-listed g c =
    let p = c.args.prepared.now.program in let plans = c.args.prepared.now.plans in let given = c.program-program.ensures.given in
    let input = c.args.input.now in let fuel = c.args.fuel in let r = c.args.place.region in let after = c.args.place.after in
    let m = c.in_ok-machine.machine in let start = start_there p plans input fuel false given c.program-program.result.now c.program-program.ensures.program m
    c.in_ok-machine.ensures in
    let low = c.requires.region in let high : c.args.place.region ≤ length c.args.prepared.now.plans = omega arith in
    let before = plans_in c.regions_before-before.result.now in let before_is = c.regions_before-before.ensures.plans in
    let last = c.in_ok-machine-2.machine in let reports = c.run_parts.new.reports in
    let gone = c.in_ok-machine-2.ensures.ok (source_run c.args.prepared.now.program c.args.input.now c.args.fuel) 0
    (ahead_first p plans given input fuel r after m start low high before before_is) in
    let w = went_some p plans given input fuel r after m start low high before before_is last _ reports c.new-told.ensures _ _ c.in-Some.end
    c.in_ok-machine-2.end c.in-Some.is gone in
    listed_here p plans given input fuel last c.in-Some.end reports (over_before p plans given input fuel r after m start low high before before_is last _
    reports c.new-told.ensures _ _ c.in-Some.end w)

pub save_in-requires-clause-between : goal.save_in-requires-clause-between
save_in-requires-clause-between g c κs within =
    let p = c.args.prepared.now.program in let plans = c.args.prepared.now.plans in let given = c.program-program.ensures.given in
    let input = c.args.input.now in let fuel = c.args.fuel in let r = c.args.place.region in let after = c.args.place.after in
    let m = c.in_ok-machine.machine in let start = start_there p plans input fuel false given c.program-program.result.now c.program-program.ensures.program m
    c.in_ok-machine.ensures in
    let low = c.requires.region in let high : c.args.place.region ≤ length c.args.prepared.now.plans = omega arith in
    let before = plans_in c.regions_before-before.result.now in let before_is = c.regions_before-before.ensures.plans in
    let last = c.in_ok-machine-2.machine in let reports = c.run_parts.new.reports in
    let gone = c.in_ok-machine-2.ensures.ok (source_run c.args.prepared.now.program c.args.input.now c.args.fuel) 0
    (ahead_first p plans given input fuel r after m start low high before before_is) in
    let w = went_none p plans given input fuel r after m start low high before before_is last _ reports c.new-told.ensures _ _ c.in_ok-machine-2.end
    c.in-None.is gone in
    between_there p plans given input fuel r after m start low high before before_is last _ reports c.new-told.ensures _ _ w

pub save_in-requires-clause-reports : goal.save_in-requires-clause-reports
save_in-requires-clause-reports g c κs within =
    let p = c.args.prepared.now.program in let plans = c.args.prepared.now.plans in let given = c.program-program.ensures.given in
    let input = c.args.input.now in let fuel = c.args.fuel in let r = c.args.place.region in let after = c.args.place.after in
    let m = c.in_ok-machine.machine in let start = start_there p plans input fuel false given c.program-program.result.now c.program-program.ensures.program m
    c.in_ok-machine.ensures in
    let low = c.requires.region in let high : c.args.place.region ≤ length c.args.prepared.now.plans = omega arith in
    let before = plans_in c.regions_before-before.result.now in let before_is = c.regions_before-before.ensures.plans in
    let last = c.in_ok-machine-2.machine in let reports = c.run_parts.new.reports in
    let gone = c.in_ok-machine-2.ensures.ok (source_run c.args.prepared.now.program c.args.input.now c.args.fuel) 0
    (ahead_first p plans given input fuel r after m start low high before before_is) in
    let w = went_none p plans given input fuel r after m start low high before before_is last _ reports c.new-told.ensures _ _ c.in_ok-machine-2.end
    c.in-None.is gone in
    reports_there p plans given input fuel r after m start low high before before_is last _ reports c.new-told.ensures _ _ w

pub save_in-requires-clause-fuel : goal.save_in-requires-clause-fuel
save_in-requires-clause-fuel g c κs within =
    let p = c.args.prepared.now.program in let plans = c.args.prepared.now.plans in let given = c.program-program.ensures.given in
    let input = c.args.input.now in let fuel = c.args.fuel in let r = c.args.place.region in let after = c.args.place.after in
    let m = c.in_ok-machine.machine in let start = start_there p plans input fuel false given c.program-program.result.now c.program-program.ensures.program m
    c.in_ok-machine.ensures in
    let low = c.requires.region in let high : c.args.place.region ≤ length c.args.prepared.now.plans = omega arith in
    let before = plans_in c.regions_before-before.result.now in let before_is = c.regions_before-before.ensures.plans in
    let last = c.in_ok-machine-2.machine in let reports = c.run_parts.new.reports in
    let gone = c.in_ok-machine-2.ensures.ok (source_run c.args.prepared.now.program c.args.input.now c.args.fuel) 0
    (ahead_first p plans given input fuel r after m start low high before before_is) in
    let w = went_none p plans given input fuel r after m start low high before before_is last _ reports c.new-told.ensures _ _ c.in_ok-machine-2.end
    c.in-None.is gone in
    let same = fuel_there p plans given input fuel r after m start low high before before_is last _ reports c.new-told.ensures _ _ w in
    let few = c.requires.fuel in omega (arith, same, few)

pub returns-in-Some-clause-ok : goal.returns-in-Some-clause-ok
returns-in-Some-clause-ok g c =
    let p = c.args.prepared.now.program in let plans = c.args.prepared.now.plans in let given = c.program-program.ensures.given in
    let input = c.args.input.now in let fuel = c.args.fuel in let r = c.args.place.region in let after = c.args.place.after in
    let m = c.in_ok-machine.machine in let start = start_there p plans input fuel false given c.program-program.result.now c.program-program.ensures.program m
    c.in_ok-machine.ensures in
    let low = c.requires.region in let high : c.args.place.region ≤ length c.args.prepared.now.plans = omega arith in
    let before = plans_in c.regions_before-before.result.now in let before_is = c.regions_before-before.ensures.plans in
    let last = c.in_ok-machine-2.machine in let reports = c.run_parts.new.reports in
    let gone = c.in_ok-machine-2.ensures.ok (source_run c.args.prepared.now.program c.args.input.now c.args.fuel) 0
    (ahead_first p plans given input fuel r after m start low high before before_is) in
    let w = went_some p plans given input fuel r after m start low high before before_is last _ reports c.new-told.ensures _ _ c.in-Some.end
    c.in_ok-machine-2.end c.in-Some.is gone in
    over_ok p plans given input fuel r after m start low high before before_is last _ reports c.new-told.ensures _ _ c.in-Some.end w
    (g.K.Sink.written c.args.sink.now) (g.K.Sink.written c.run_parts.new.sink) c.in_ok-machine-2.ensures.written c.program-program.result.now
    c.program-program.ensures.program c.finish.result (g.K.Sink.written c.finish.new.sink) c.finish.ensures.ok

pub returns-in-Some-clause-err : goal.returns-in-Some-clause-err
returns-in-Some-clause-err g c =
    let p = c.args.prepared.now.program in let plans = c.args.prepared.now.plans in let given = c.program-program.ensures.given in
    let input = c.args.input.now in let fuel = c.args.fuel in let r = c.args.place.region in let after = c.args.place.after in
    let m = c.in_ok-machine.machine in let start = start_there p plans input fuel false given c.program-program.result.now c.program-program.ensures.program m
    c.in_ok-machine.ensures in
    let low = c.requires.region in let high : c.args.place.region ≤ length c.args.prepared.now.plans = omega arith in
    let before = plans_in c.regions_before-before.result.now in let before_is = c.regions_before-before.ensures.plans in
    let last = c.in_ok-machine-2.machine in let reports = c.run_parts.new.reports in
    let gone = c.in_ok-machine-2.ensures.ok (source_run c.args.prepared.now.program c.args.input.now c.args.fuel) 0
    (ahead_first p plans given input fuel r after m start low high before before_is) in
    let w = went_some p plans given input fuel r after m start low high before before_is last _ reports c.new-told.ensures _ _ c.in-Some.end
    c.in_ok-machine-2.end c.in-Some.is gone in
    over_err p plans given input fuel r after m start low high before before_is last _ reports c.new-told.ensures _ _ c.in-Some.end w
    (g.K.Sink.written c.args.sink.now) (g.K.Sink.written c.run_parts.new.sink) c.in_ok-machine-2.ensures.written c.program-program.result.now
    c.program-program.ensures.program c.finish.result (g.K.Sink.written c.finish.new.sink) c.finish.ensures.err

pub returns-in-None-clause-ok : goal.returns-in-None-clause-ok
returns-in-None-clause-ok g c =
    let p = c.args.prepared.now.program in let plans = c.args.prepared.now.plans in let given = c.program-program.ensures.given in
    let input = c.args.input.now in let fuel = c.args.fuel in let r = c.args.place.region in let after = c.args.place.after in
    let m = c.in_ok-machine.machine in let start = start_there p plans input fuel false given c.program-program.result.now c.program-program.ensures.program m
    c.in_ok-machine.ensures in
    let low = c.requires.region in let high : c.args.place.region ≤ length c.args.prepared.now.plans = omega arith in
    let before = plans_in c.regions_before-before.result.now in let before_is = c.regions_before-before.ensures.plans in
    let last = c.in_ok-machine-2.machine in let reports = c.run_parts.new.reports in
    let gone = c.in_ok-machine-2.ensures.ok (source_run c.args.prepared.now.program c.args.input.now c.args.fuel) 0
    (ahead_first p plans given input fuel r after m start low high before before_is) in
    let w = went_none p plans given input fuel r after m start low high before before_is last _ reports c.new-told.ensures _ _ c.in_ok-machine-2.end
    c.in-None.is gone in
    let b = between_next p plans given input fuel r after m start low high before before_is last _ reports c.new-told.ensures _ _ w in
    next_ok p plans given input fuel r after m start low high before before_is last b (g.K.Sink.written c.args.sink.now) (g.K.Sink.written c.run_parts.new.sink)
    c.in_ok-machine-2.ensures.written c.save_in.result (g.K.Sink.written c.save_in.new.sink) c.save_in.ensures.ok

pub returns-in-None-clause-err : goal.returns-in-None-clause-err
returns-in-None-clause-err g c =
    let p = c.args.prepared.now.program in let plans = c.args.prepared.now.plans in let given = c.program-program.ensures.given in
    let input = c.args.input.now in let fuel = c.args.fuel in let r = c.args.place.region in let after = c.args.place.after in
    let m = c.in_ok-machine.machine in let start = start_there p plans input fuel false given c.program-program.result.now c.program-program.ensures.program m
    c.in_ok-machine.ensures in
    let low = c.requires.region in let high : c.args.place.region ≤ length c.args.prepared.now.plans = omega arith in
    let before = plans_in c.regions_before-before.result.now in let before_is = c.regions_before-before.ensures.plans in
    let last = c.in_ok-machine-2.machine in let reports = c.run_parts.new.reports in
    let gone = c.in_ok-machine-2.ensures.ok (source_run c.args.prepared.now.program c.args.input.now c.args.fuel) 0
    (ahead_first p plans given input fuel r after m start low high before before_is) in
    let w = went_none p plans given input fuel r after m start low high before before_is last _ reports c.new-told.ensures _ _ c.in_ok-machine-2.end
    c.in-None.is gone in
    let b = between_next p plans given input fuel r after m start low high before before_is last _ reports c.new-told.ensures _ _ w in
    next_err p plans given input fuel r after m start low high before before_is last b (g.K.Sink.written c.args.sink.now)
    (g.K.Sink.written c.run_parts.new.sink) c.in_ok-machine-2.ensures.written c.save_in.result (g.K.Sink.written c.save_in.new.sink) c.save_in.ensures.err
