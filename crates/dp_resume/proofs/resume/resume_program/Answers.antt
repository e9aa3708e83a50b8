use Rattle.std.proofs.Common.{◌-◌, sym, subst, arith}
use Rattle.dp_room.proofs.ResultLemmas.{on_err}
use Rattle.dp_tree.specs.declared.Program.{Program}
use Rattle.dp_run.specs.Prepared.{AreOf, plans_in}
use Rattle.dp_run.proofs.Counting.{as_many}
use Rattle.dp_resume.specs.Resumed.{resumed_run}
use Rattle.dp_resume.proofs.Calls.{ahead_here, finished_here, listed_here, nothing_written, program_here, reports_here, saved_small_here, start_here}
use Rattle.dp_resume.proofs.Calls.{told_small_here}
use Rattle.dp_resume.proofs.Whole.{all_written, end_is, front_at_end, front_of_prints, front_of_run}
use Rattle.dp_resume.proofs.resume.resume_program.Goals as goal

pub regions_behind-left-requires : goal.regions_behind-left-requires
regions_behind-left-requires g c =
    let many = as_many c.args.prepared.now.program c.args.prepared.now.plans c.program-program.ensures.given in
    omega (arith, many, c.requires.fits.place.region_exists)

pub run_parts-requires-clause-ahead : goal.run_parts-requires-clause-ahead
run_parts-requires-clause-ahead g c κs within = (
  resumed_run c.args.prepared.now.program c.args.input.now c.args.checkpoint,
  c.args.checkpoint.region - 1,
  ahead_here c.args.prepared.now.program c.args.prepared.now.plans c.program-program.ensures.given c.args.input.now c.args.checkpoint c.requires.fits
      c.into_parts-cells.result.0 c.into_parts-cells.ensures.0 (plans_in c.regions_behind-left.result.now) c.regions_behind-left.ensures.plans
      c.in_ok-machine.machine c.program-program.result.now c.program-program.ensures.program c.in_ok-machine.ensures,
)

pub run_parts-requires-clause-regions : goal.run_parts-requires-clause-regions
run_parts-requires-clause-regions g c κs within = subst (λ (p : Program). AreOf p c.regions_behind-left.result.now)
    (sym (program_here c.args.prepared.now.program c.args.prepared.now.plans c.program-program.ensures.given c.args.input.now c.args.checkpoint c.requires.fits
    c.into_parts-cells.result.0 c.into_parts-cells.ensures.0 (plans_in c.regions_behind-left.result.now) c.regions_behind-left.ensures.plans
    c.in_ok-machine.machine c.program-program.result.now c.program-program.ensures.program c.in_ok-machine.ensures))
    c.regions_behind-left.ensures.own

pub returns-in_err-machine-clause-err : goal.returns-in_err-machine-clause-err
returns-in_err-machine-clause-err g c = on_err c.from_residual.result _ (nothing_written c.args.prepared.now.program c.args.prepared.now.plans c.args.input.now
    c.args.checkpoint (g.K.Sink.written c.args.sink.now))

pub returns-in_err-machine-2-clause-err : goal.returns-in_err-machine-2-clause-err
returns-in_err-machine-2-clause-err g c =
    on_err c.from_residual-in_err-machine-2.result _
    (front_of_run c.args.prepared.now.program c.args.prepared.now.plans c.program-program.ensures.given c.args.input.now c.args.checkpoint c.requires.fits
    c.in_ok-machine.machine
    (start_here c.args.prepared.now.program c.args.prepared.now.plans c.program-program.ensures.given c.args.input.now c.args.checkpoint c.requires.fits
    c.into_parts-cells.result.0 c.into_parts-cells.ensures.0 (plans_in c.regions_behind-left.result.now) c.regions_behind-left.ensures.plans
    c.in_ok-machine.machine c.program-program.result.now c.program-program.ensures.program c.in_ok-machine.ensures)
    (g.K.Sink.written c.args.sink.now) (g.K.Sink.written c.run_parts.new.sink) c.in_err-machine-2.ensures.front)

pub merged-requires-clause-saved : goal.merged-requires-clause-saved
merged-requires-clause-saved g c =
    saved_small_here c.args.prepared.now.program c.args.checkpoint c.requires.fits c.into_parts-cells.result.1 c.into_parts-cells.ensures.1

pub merged-requires-clause-told : goal.merged-requires-clause-told
merged-requires-clause-told g c =
    let done = finished_here c.args.prepared.now.program c.args.prepared.now.plans c.program-program.ensures.given c.args.input.now c.args.checkpoint
    c.requires.fits c.into_parts-cells.result.0 c.into_parts-cells.ensures.0 (plans_in c.regions_behind-left.result.now) c.regions_behind-left.ensures.plans
    c.in_ok-machine.machine c.program-program.result.now c.program-program.ensures.program c.in_ok-machine.ensures
    c.in_ok-machine-2.machine c.in_ok-machine-2.end c.end_of-end.result c.new-told.result c.run_parts.new.reports c.args.tally.now c.run_parts.new.tally
    c.new-told.ensures c.end_of-end.ensures c.in_ok-machine-2.ensures.ok in
    told_small_here c.args.prepared.now.program c.args.prepared.now.plans c.program-program.ensures.given c.args.input.now c.args.checkpoint c.requires.fits
    c.in_ok-machine-2.machine c.end_of-end.result c.run_parts.new.reports done

pub returns-in_err-reports-clause-err : goal.returns-in_err-reports-clause-err
returns-in_err-reports-clause-err g c =
    let start = start_here c.args.prepared.now.program c.args.prepared.now.plans c.program-program.ensures.given c.args.input.now c.args.checkpoint
    c.requires.fits c.into_parts-cells.result.0 c.into_parts-cells.ensures.0 (plans_in c.regions_behind-left.result.now) c.regions_behind-left.ensures.plans
    c.in_ok-machine.machine c.program-program.result.now c.program-program.ensures.program c.in_ok-machine.ensures in
    let done = finished_here c.args.prepared.now.program c.args.prepared.now.plans c.program-program.ensures.given c.args.input.now c.args.checkpoint
    c.requires.fits c.into_parts-cells.result.0 c.into_parts-cells.ensures.0 (plans_in c.regions_behind-left.result.now) c.regions_behind-left.ensures.plans
    c.in_ok-machine.machine c.program-program.result.now c.program-program.ensures.program c.in_ok-machine.ensures
    c.in_ok-machine-2.machine c.in_ok-machine-2.end c.end_of-end.result c.new-told.result c.run_parts.new.reports c.args.tally.now c.run_parts.new.tally
    c.new-told.ensures c.end_of-end.ensures c.in_ok-machine-2.ensures.ok in
    on_err c.from_residual-in_err-reports.result _
    (front_of_prints c.args.prepared.now.program c.args.prepared.now.plans c.program-program.ensures.given c.args.input.now c.args.checkpoint c.requires.fits
    c.in_ok-machine-2.machine c.end_of-end.result c.run_parts.new.reports done c.in_ok-machine.machine start
    (g.K.Sink.written c.args.sink.now) (g.K.Sink.written c.run_parts.new.sink) c.in_ok-machine-2.ensures.written)

pub write_end-requires-clause-listed : goal.write_end-requires-clause-listed
write_end-requires-clause-listed g c =
    let done = finished_here c.args.prepared.now.program c.args.prepared.now.plans c.program-program.ensures.given c.args.input.now c.args.checkpoint
    c.requires.fits c.into_parts-cells.result.0 c.into_parts-cells.ensures.0 (plans_in c.regions_behind-left.result.now) c.regions_behind-left.ensures.plans
    c.in_ok-machine.machine c.program-program.result.now c.program-program.ensures.program c.in_ok-machine.ensures
    c.in_ok-machine-2.machine c.in_ok-machine-2.end c.end_of-end.result c.new-told.result c.run_parts.new.reports c.args.tally.now c.run_parts.new.tally
    c.new-told.ensures c.end_of-end.ensures c.in_ok-machine-2.ensures.ok in
    listed_here c.args.prepared.now.program c.args.prepared.now.plans c.program-program.ensures.given c.args.input.now c.args.checkpoint c.requires.fits
    c.in_ok-machine-2.machine c.end_of-end.result c.run_parts.new.reports done c.into_parts-cells.result.1 c.in_ok-reports.reports c.into_parts-cells.ensures.1
    c.in_ok-reports.ensures

pub returns-in_err-write_end-clause-err : goal.returns-in_err-write_end-clause-err
returns-in_err-write_end-clause-err g c =
    let start = start_here c.args.prepared.now.program c.args.prepared.now.plans c.program-program.ensures.given c.args.input.now c.args.checkpoint
    c.requires.fits c.into_parts-cells.result.0 c.into_parts-cells.ensures.0 (plans_in c.regions_behind-left.result.now) c.regions_behind-left.ensures.plans
    c.in_ok-machine.machine c.program-program.result.now c.program-program.ensures.program c.in_ok-machine.ensures in
    let done = finished_here c.args.prepared.now.program c.args.prepared.now.plans c.program-program.ensures.given c.args.input.now c.args.checkpoint
    c.requires.fits c.into_parts-cells.result.0 c.into_parts-cells.ensures.0 (plans_in c.regions_behind-left.result.now) c.regions_behind-left.ensures.plans
    c.in_ok-machine.machine c.program-program.result.now c.program-program.ensures.program c.in_ok-machine.ensures
    c.in_ok-machine-2.machine c.in_ok-machine-2.end c.end_of-end.result c.new-told.result c.run_parts.new.reports c.args.tally.now c.run_parts.new.tally
    c.new-told.ensures c.end_of-end.ensures c.in_ok-machine-2.ensures.ok in
    on_err c.from_residual-in_err-write_end.result _
    (front_at_end c.args.prepared.now.program c.args.prepared.now.plans c.program-program.ensures.given c.args.input.now c.args.checkpoint c.requires.fits
    c.in_ok-machine-2.machine c.end_of-end.result c.run_parts.new.reports done c.in_ok-machine.machine start
    (g.K.Sink.written c.args.sink.now) (g.K.Sink.written c.run_parts.new.sink) c.in_ok-machine-2.ensures.written c.cells-cells.result.now c.cells-cells.ensures
    c.in_ok-reports.reports
    (reports_here c.args.checkpoint c.into_parts-cells.result.1 c.run_parts.new.reports c.in_ok-reports.reports c.into_parts-cells.ensures.1
    c.in_ok-reports.ensures) c.program-program.result.now c.program-program.ensures.program (g.K.Sink.written c.write_end.new.sink)
    c.in_err-write_end.ensures.err)

pub returns-clause-ok : goal.returns-clause-ok
returns-clause-ok g c =
    let start = start_here c.args.prepared.now.program c.args.prepared.now.plans c.program-program.ensures.given c.args.input.now c.args.checkpoint
    c.requires.fits c.into_parts-cells.result.0 c.into_parts-cells.ensures.0 (plans_in c.regions_behind-left.result.now) c.regions_behind-left.ensures.plans
    c.in_ok-machine.machine c.program-program.result.now c.program-program.ensures.program c.in_ok-machine.ensures in
    let done = finished_here c.args.prepared.now.program c.args.prepared.now.plans c.program-program.ensures.given c.args.input.now c.args.checkpoint
    c.requires.fits c.into_parts-cells.result.0 c.into_parts-cells.ensures.0 (plans_in c.regions_behind-left.result.now) c.regions_behind-left.ensures.plans
    c.in_ok-machine.machine c.program-program.result.now c.program-program.ensures.program c.in_ok-machine.ensures
    c.in_ok-machine-2.machine c.in_ok-machine-2.end c.end_of-end.result c.new-told.result c.run_parts.new.reports c.args.tally.now c.run_parts.new.tally
    c.new-told.ensures c.end_of-end.ensures c.in_ok-machine-2.ensures.ok in (
      end_is c.args.prepared.now.program c.args.prepared.now.plans c.program-program.ensures.given c.args.input.now c.args.checkpoint c.requires.fits
          c.in_ok-machine-2.machine c.end_of-end.result c.run_parts.new.reports done,
      all_written c.args.prepared.now.program c.args.prepared.now.plans c.program-program.ensures.given c.args.input.now c.args.checkpoint c.requires.fits
          c.in_ok-machine-2.machine c.end_of-end.result c.run_parts.new.reports done c.in_ok-machine.machine start
          (g.K.Sink.written c.args.sink.now) (g.K.Sink.written c.run_parts.new.sink) c.in_ok-machine-2.ensures.written c.cells-cells.result.now
          c.cells-cells.ensures c.in_ok-reports.reports
          (reports_here c.args.checkpoint c.into_parts-cells.result.1 c.run_parts.new.reports c.in_ok-reports.reports c.into_parts-cells.ensures.1
          c.in_ok-reports.ensures) c.program-program.result.now c.program-program.ensures.program (g.K.Sink.written c.write_end.new.sink)
          c.in_ok-write_end.ensures.ok,
    )
