use Rattle.std.proofs.Common.{refl, subst}
use Rattle.dp_base.specs.declared.End.TheVariants as how
use Rattle.dp_crew.proofs.StreamLemmas.{emits_nothing}
use Rattle.dp_epoch.specs.declared.ends.RegionEnd.{RegionEnd}
use Rattle.dp_run.specs.RunText.{source_run}
use Rattle.dp_run.specs.Stretches.{AfterRegion, to_come}
use Rattle.dp_resume.proofs.RestLemmas.{Ended, ended_err, ended_ok, listed_here}
use Rattle.dp_resume.proofs.rest.run_on.Goals as goal

pub finish-requires-clause-listed : goal.finish-requires-clause-listed
finish-requires-clause-listed g c =
    let p = c.args.prepared.now.program in let plans = c.args.prepared.now.plans in let input = c.args.input.now in let fuel = c.args.machine.fuel in
    let over = subst (λ (end : RegionEnd). AfterRegion p input fuel (source_run p input fuel) c.args.region c.args.machine end)
    c.in-Fault.is c.requires.after in
    let done : Ended c.args.prepared.now.program c.args.prepared.now.plans c.program-program.ensures.given c.args.input.now c.args.machine.fuel c.args.machine
    (how.Fault c.in-Fault.fault) c.args.reports = record { count = c.args.region; within = c.requires.region; over = over; reports_are = c.requires.reports } in
    listed_here p plans c.program-program.ensures.given input fuel c.args.machine (how.Fault c.in-Fault.fault) c.args.reports done

pub finish-requires-in-Fuel-clause-listed : goal.finish-requires-in-Fuel-clause-listed
finish-requires-in-Fuel-clause-listed g c =
    let p = c.args.prepared.now.program in let plans = c.args.prepared.now.plans in let input = c.args.input.now in let fuel = c.args.machine.fuel in
    let over = subst (λ (end : RegionEnd). AfterRegion p input fuel (source_run p input fuel) c.args.region c.args.machine end) c.in-Fuel.is c.requires.after in
    let done : Ended c.args.prepared.now.program c.args.prepared.now.plans c.program-program.ensures.given c.args.input.now c.args.machine.fuel c.args.machine
    how.Fuel c.args.reports = record { count = c.args.region; within = c.requires.region; over = over; reports_are = c.requires.reports } in
    listed_here p plans c.program-program.ensures.given input fuel c.args.machine how.Fuel c.args.reports done

pub returns-in-Fault-clause-ok : goal.returns-in-Fault-clause-ok
returns-in-Fault-clause-ok g c =
    let p = c.args.prepared.now.program in let plans = c.args.prepared.now.plans in let input = c.args.input.now in let fuel = c.args.machine.fuel in
    let over = subst (λ (end : RegionEnd). AfterRegion p input fuel (source_run p input fuel) c.args.region c.args.machine end)
    c.in-Fault.is c.requires.after in
    let done : Ended c.args.prepared.now.program c.args.prepared.now.plans c.program-program.ensures.given c.args.input.now c.args.machine.fuel c.args.machine
    (how.Fault c.in-Fault.fault) c.args.reports = record { count = c.args.region; within = c.requires.region; over = over; reports_are = c.requires.reports } in
    ended_ok p plans c.program-program.ensures.given input fuel c.args.machine (how.Fault c.in-Fault.fault) c.args.reports done c.args.machine refl _ _
    (emits_nothing (to_come c.args.machine) (g.K.Sink.written c.args.sink.now)) c.program-program.result.now c.program-program.ensures.program c.finish.result
    _ c.finish.ensures.ok

pub returns-in-Fault-clause-err : goal.returns-in-Fault-clause-err
returns-in-Fault-clause-err g c =
    let p = c.args.prepared.now.program in let plans = c.args.prepared.now.plans in let input = c.args.input.now in let fuel = c.args.machine.fuel in
    let over = subst (λ (end : RegionEnd). AfterRegion p input fuel (source_run p input fuel) c.args.region c.args.machine end)
    c.in-Fault.is c.requires.after in
    let done : Ended c.args.prepared.now.program c.args.prepared.now.plans c.program-program.ensures.given c.args.input.now c.args.machine.fuel c.args.machine
    (how.Fault c.in-Fault.fault) c.args.reports = record { count = c.args.region; within = c.requires.region; over = over; reports_are = c.requires.reports } in
    ended_err p plans c.program-program.ensures.given input fuel c.args.machine (how.Fault c.in-Fault.fault) c.args.reports done c.args.machine refl _ _
    (emits_nothing (to_come c.args.machine) (g.K.Sink.written c.args.sink.now)) c.program-program.result.now c.program-program.ensures.program c.finish.result _
    c.finish.ensures.err

pub returns-in-Fuel-clause-ok : goal.returns-in-Fuel-clause-ok
returns-in-Fuel-clause-ok g c =
    let p = c.args.prepared.now.program in let plans = c.args.prepared.now.plans in let input = c.args.input.now in let fuel = c.args.machine.fuel in
    let over = subst (λ (end : RegionEnd). AfterRegion p input fuel (source_run p input fuel) c.args.region c.args.machine end) c.in-Fuel.is c.requires.after in
    let done : Ended c.args.prepared.now.program c.args.prepared.now.plans c.program-program.ensures.given c.args.input.now c.args.machine.fuel c.args.machine
    how.Fuel c.args.reports = record { count = c.args.region; within = c.requires.region; over = over; reports_are = c.requires.reports } in
    ended_ok p plans c.program-program.ensures.given input fuel c.args.machine how.Fuel c.args.reports done c.args.machine refl _ _
    (emits_nothing (to_come c.args.machine) (g.K.Sink.written c.args.sink.now)) c.program-program.result.now c.program-program.ensures.program
    c.finish-in-Fuel.result _ c.finish-in-Fuel.ensures.ok

pub returns-in-Fuel-clause-err : goal.returns-in-Fuel-clause-err
returns-in-Fuel-clause-err g c =
    let p = c.args.prepared.now.program in let plans = c.args.prepared.now.plans in let input = c.args.input.now in let fuel = c.args.machine.fuel in
    let over = subst (λ (end : RegionEnd). AfterRegion p input fuel (source_run p input fuel) c.args.region c.args.machine end) c.in-Fuel.is c.requires.after in
    let done : Ended c.args.prepared.now.program c.args.prepared.now.plans c.program-program.ensures.given c.args.input.now c.args.machine.fuel c.args.machine
    how.Fuel c.args.reports = record { count = c.args.region; within = c.requires.region; over = over; reports_are = c.requires.reports } in
    ended_err p plans c.program-program.ensures.given input fuel c.args.machine how.Fuel c.args.reports done c.args.machine refl _ _
    (emits_nothing (to_come c.args.machine) (g.K.Sink.written c.args.sink.now)) c.program-program.result.now c.program-program.ensures.program
    c.finish-in-Fuel.result _ c.finish-in-Fuel.ensures.err
