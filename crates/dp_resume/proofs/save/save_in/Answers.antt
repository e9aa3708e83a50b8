use Rattle.std.proofs.Common.{◌-◌, ◌++◌, ◌∷◌, [], refl, arith}
use Rattle.dp_room.proofs.ResultLemmas.{on_err}
use Rattle.dp_resume.proofs.SaveCalls.{after_it, begins, front_left, ran_err, ran_ok, reports_after, saved_err, saved_ok, stopped_here, stops_own}
use Rattle.dp_resume.proofs.save.save_in.Goals as goal

pub reach-requires-clause-start : goal.reach-requires-clause-start
reach-requires-clause-start g c = begins c.args.prepared.now.program c.args.prepared.now.plans c.program-program.ensures.given c.args.input.now
    c.args.place.region (c.args.place.region - 1) c.args.place.after (omega (arith, c.requires.region.0)) c.region_of-region.result.now.plan
    c.region_of-region.ensures.plan c.args.machine c.requires.between c.region_of-region.result.now.program c.region_of-region.ensures.own

pub returns-in_err-machine-clause-err : goal.returns-in_err-machine-clause-err
returns-in_err-machine-clause-err g c =
    on_err c.from_residual.result _ (front_left c.args.prepared.now.program c.args.prepared.now.plans c.program-program.ensures.given c.args.input.now
    c.args.place.region (c.args.place.region - 1) c.args.place.after (omega (arith, c.requires.region.0)) c.region_of-region.result.now.plan
    c.region_of-region.ensures.plan c.args.machine c.requires.between (g.K.Sink.written c.args.sink.now) (g.K.Sink.written c.reach.new.sink)
    c.in_err-machine.ensures.front)

pub returns-in_err-push-clause-err : goal.returns-in_err-push-clause-err
returns-in_err-push-clause-err g c =
    on_err c.from_residual-in_err-push.result _ (stopped_here c.args.prepared.now.program c.args.prepared.now.plans c.program-program.ensures.given
    c.args.input.now c.args.place.region (c.args.place.region - 1) c.args.place.after (omega (arith, c.requires.region.0)) c.region_of-region.result.now.plan
    c.region_of-region.ensures.plan c.args.machine c.requires.between c.in_ok-machine.machine c.in_ok-machine.report c.args.reports
    (c.args.reports ++ c.in_ok-machine.report ∷ []) c.requires.reports refl c.in_ok-machine.end
    (stops_own c.region_of-region.result.now.program c.args.prepared.now.program c.region_of-region.ensures.own c.region_of-region.result.now.plan
    c.args.machine c.args.place.after c.in_ok-machine.machine c.in_ok-machine.report c.in_ok-machine.end _ refl c.in_ok-machine.ensures.stops)
    (g.K.Sink.written c.args.sink.now) (g.K.Sink.written c.reach.new.sink) c.in_ok-machine.ensures.written)

pub run_on-requires-clause-after : goal.run_on-requires-clause-after
run_on-requires-clause-after g c κs within = after_it c.args.prepared.now.program c.args.prepared.now.plans c.program-program.ensures.given c.args.input.now
    c.args.place.region (c.args.place.region - 1) c.args.place.after (omega (arith, c.requires.region.0)) c.region_of-region.result.now.plan
    c.region_of-region.ensures.plan c.args.machine c.requires.between c.in_ok-machine.machine c.in_ok-machine.report c.args.reports c.push.new.self
    c.requires.reports c.in_ok-push.ensures.ok c.in-Some.end (stops_own c.region_of-region.result.now.program c.args.prepared.now.program
    c.region_of-region.ensures.own c.region_of-region.result.now.plan c.args.machine c.args.place.after c.in_ok-machine.machine c.in_ok-machine.report
    c.in_ok-machine.end _ c.in-Some.is c.in_ok-machine.ensures.stops)

pub run_on-requires-clause-reports : goal.run_on-requires-clause-reports
run_on-requires-clause-reports g c κs within = reports_after c.args.prepared.now.program c.args.prepared.now.plans c.program-program.ensures.given
    c.args.input.now c.args.place.region (c.args.place.region - 1) c.args.place.after (omega (arith, c.requires.region.0)) c.region_of-region.result.now.plan
    c.region_of-region.ensures.plan c.args.machine c.requires.between c.in_ok-machine.machine c.in_ok-machine.report c.args.reports c.push.new.self
    c.requires.reports c.in_ok-push.ensures.ok c.in-Some.end (stops_own c.region_of-region.result.now.program c.args.prepared.now.program
    c.region_of-region.ensures.own c.region_of-region.result.now.plan c.args.machine c.args.place.after c.in_ok-machine.machine c.in_ok-machine.report
    c.in_ok-machine.end _ c.in-Some.is c.in_ok-machine.ensures.stops)

pub returns-in-None-clause-ok : goal.returns-in-None-clause-ok
returns-in-None-clause-ok g c = saved_ok c.args.prepared.now.program c.args.prepared.now.plans c.program-program.ensures.given c.args.input.now
    c.args.place.region (c.args.place.region - 1) c.args.place.after (omega (arith, c.requires.region.0)) c.region_of-region.result.now.plan
    c.region_of-region.ensures.plan c.args.machine c.requires.between c.in_ok-machine.machine c.in_ok-machine.report c.args.reports c.push.new.self
    c.requires.reports c.in_ok-push.ensures.ok (stops_own c.region_of-region.result.now.program c.args.prepared.now.program c.region_of-region.ensures.own
    c.region_of-region.result.now.plan c.args.machine c.args.place.after c.in_ok-machine.machine c.in_ok-machine.report c.in_ok-machine.end _ c.in-None.is
    c.in_ok-machine.ensures.stops) (g.K.Sink.written c.args.sink.now) (g.K.Sink.written c.reach.new.sink) c.in_ok-machine.ensures.written c.write_saved.result
    (g.K.Sink.written c.write_saved.new.sink) c.write_saved.ensures.within c.write_saved.ensures.ok

pub returns-in-None-clause-err : goal.returns-in-None-clause-err
returns-in-None-clause-err g c = saved_err c.args.prepared.now.program c.args.prepared.now.plans c.program-program.ensures.given c.args.input.now
    c.args.place.region (c.args.place.region - 1) c.args.place.after (omega (arith, c.requires.region.0)) c.region_of-region.result.now.plan
    c.region_of-region.ensures.plan c.args.machine c.requires.between c.in_ok-machine.machine c.in_ok-machine.report c.args.reports c.push.new.self
    c.requires.reports c.in_ok-push.ensures.ok (stops_own c.region_of-region.result.now.program c.args.prepared.now.program c.region_of-region.ensures.own
    c.region_of-region.result.now.plan c.args.machine c.args.place.after c.in_ok-machine.machine c.in_ok-machine.report c.in_ok-machine.end _ c.in-None.is
    c.in_ok-machine.ensures.stops) (g.K.Sink.written c.args.sink.now) (g.K.Sink.written c.reach.new.sink) c.in_ok-machine.ensures.written c.write_saved.result
    (g.K.Sink.written c.write_saved.new.sink) c.write_saved.ensures.within c.write_saved.ensures.err

pub returns-in-Some-clause-ok : goal.returns-in-Some-clause-ok
returns-in-Some-clause-ok g c = ran_ok c.args.prepared.now.program c.args.prepared.now.plans c.program-program.ensures.given c.args.input.now
    c.args.place.region (c.args.place.region - 1) c.args.place.after (omega (arith, c.requires.region.0)) c.region_of-region.result.now.plan
    c.region_of-region.ensures.plan c.args.machine c.requires.between c.in_ok-machine.machine c.in_ok-machine.report c.args.reports c.push.new.self
    c.requires.reports c.in_ok-push.ensures.ok c.in-Some.end (stops_own c.region_of-region.result.now.program c.args.prepared.now.program
    c.region_of-region.ensures.own c.region_of-region.result.now.plan c.args.machine c.args.place.after c.in_ok-machine.machine c.in_ok-machine.report
    c.in_ok-machine.end _ c.in-Some.is c.in_ok-machine.ensures.stops) (g.K.Sink.written c.args.sink.now) (g.K.Sink.written c.reach.new.sink)
    c.in_ok-machine.ensures.written c.run_on.result (g.K.Sink.written c.run_on.new.sink) c.run_on.ensures.ok

pub returns-in-Some-clause-err : goal.returns-in-Some-clause-err
returns-in-Some-clause-err g c = ran_err c.args.prepared.now.program c.args.prepared.now.plans c.program-program.ensures.given c.args.input.now
    c.args.place.region (c.args.place.region - 1) c.args.place.after (omega (arith, c.requires.region.0)) c.region_of-region.result.now.plan
    c.region_of-region.ensures.plan c.args.machine c.requires.between c.in_ok-machine.machine c.in_ok-machine.report c.args.reports c.push.new.self
    c.requires.reports c.in_ok-push.ensures.ok c.in-Some.end (stops_own c.region_of-region.result.now.program c.args.prepared.now.program
    c.region_of-region.ensures.own c.region_of-region.result.now.plan c.args.machine c.args.place.after c.in_ok-machine.machine c.in_ok-machine.report
    c.in_ok-machine.end _ c.in-Some.is c.in_ok-machine.ensures.stops) (g.K.Sink.written c.args.sink.now) (g.K.Sink.written c.reach.new.sink)
    c.in_ok-machine.ensures.written c.run_on.result (g.K.Sink.written c.run_on.new.sink) c.run_on.ensures.err
