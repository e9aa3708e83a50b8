use Rattle.std.proofs.Common.{refl, sym, subst}
use Rattle.dp_room.proofs.ResultLemmas.{on_err}
use Rattle.dp_tree.specs.declared.Program.{Program}
use Rattle.dp_run.specs.Prepared.{AreOf, plans_in}
use Rattle.dp_run.specs.RunText.{source_run}
use Rattle.dp_resume.proofs.RestLemmas.{ahead_called, ended_called, ended_err, ended_ok, front_ending, listed_here}
use Rattle.dp_resume.proofs.rest.run_behind.Goals as goal

pub run_parts-requires-clause-ahead : goal.run_parts-requires-clause-ahead
run_parts-requires-clause-ahead g c κs within = (
  source_run c.args.prepared.now.program c.args.input.now c.args.machine.fuel,
  c.args.region,
  ahead_called c.args.prepared.now.program c.args.prepared.now.plans c.program-program.ensures.given c.args.input.now c.args.machine.fuel c.args.region
      c.requires.region (plans_in c.regions_behind-left.result.now) c.regions_behind-left.ensures.plans c.args.machine c.requires.behind,
)

pub run_parts-requires-clause-regions : goal.run_parts-requires-clause-regions
run_parts-requires-clause-regions g c κs within =
    subst (λ (p : Program). AreOf p c.regions_behind-left.result.now) (sym c.requires.behind.program_is) c.regions_behind-left.ensures.own

pub returns-in_err-machine-clause-err : goal.returns-in_err-machine-clause-err
returns-in_err-machine-clause-err g c =
    on_err c.from_residual.result _ (front_ending c.args.prepared.now.program c.args.prepared.now.plans c.args.input.now c.args.machine
    (g.K.Sink.written c.args.sink.now) (g.K.Sink.written c.run_parts.new.sink) c.in_err-machine.ensures.front)

pub finish-requires-clause-listed : goal.finish-requires-clause-listed
finish-requires-clause-listed g c =
    let done = ended_called c.args.prepared.now.program c.args.prepared.now.plans c.program-program.ensures.given c.args.input.now c.args.machine.fuel
    c.args.region c.requires.region (plans_in c.regions_behind-left.result.now) c.regions_behind-left.ensures.plans c.args.machine c.requires.behind
    c.in_ok-machine.machine c.in_ok-machine.end c.end_of.result c.args.reports c.run_parts.new.reports _ _ c.requires.reports c.end_of.ensures
    c.in_ok-machine.ensures.ok in
    listed_here c.args.prepared.now.program c.args.prepared.now.plans c.program-program.ensures.given c.args.input.now c.args.machine.fuel
    c.in_ok-machine.machine c.end_of.result c.run_parts.new.reports done

pub returns-clause-ok : goal.returns-clause-ok
returns-clause-ok g c =
    let done = ended_called c.args.prepared.now.program c.args.prepared.now.plans c.program-program.ensures.given c.args.input.now c.args.machine.fuel
    c.args.region c.requires.region (plans_in c.regions_behind-left.result.now) c.regions_behind-left.ensures.plans c.args.machine c.requires.behind
    c.in_ok-machine.machine c.in_ok-machine.end c.end_of.result c.args.reports c.run_parts.new.reports _ _ c.requires.reports c.end_of.ensures
    c.in_ok-machine.ensures.ok in
    ended_ok c.args.prepared.now.program c.args.prepared.now.plans c.program-program.ensures.given c.args.input.now c.args.machine.fuel c.in_ok-machine.machine
    c.end_of.result c.run_parts.new.reports done c.args.machine refl (g.K.Sink.written c.args.sink.now) (g.K.Sink.written c.run_parts.new.sink)
    c.in_ok-machine.ensures.written
    c.program-program.result.now c.program-program.ensures.program c.finish.result (g.K.Sink.written c.finish.new.sink) c.finish.ensures.ok

pub returns-clause-err : goal.returns-clause-err
returns-clause-err g c =
    let done = ended_called c.args.prepared.now.program c.args.prepared.now.plans c.program-program.ensures.given c.args.input.now c.args.machine.fuel
    c.args.region c.requires.region (plans_in c.regions_behind-left.result.now) c.regions_behind-left.ensures.plans c.args.machine c.requires.behind
    c.in_ok-machine.machine c.in_ok-machine.end c.end_of.result c.args.reports c.run_parts.new.reports _ _ c.requires.reports c.end_of.ensures
    c.in_ok-machine.ensures.ok in
    ended_err c.args.prepared.now.program c.args.prepared.now.plans c.program-program.ensures.given c.args.input.now c.args.machine.fuel c.in_ok-machine.machine
    c.end_of.result c.run_parts.new.reports done c.args.machine refl (g.K.Sink.written c.args.sink.now) (g.K.Sink.written c.run_parts.new.sink)
    c.in_ok-machine.ensures.written
    c.program-program.result.now c.program-program.ensures.program c.finish.result (g.K.Sink.written c.finish.new.sink) c.finish.ensures.err
