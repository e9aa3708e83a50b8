use Rattle.std.proofs.Common.{refl, ap, subst, ◌∙◌}
use Rattle.dp_tree.specs.declared.Program.{Program}
use Rattle.dp_edge.specs.Sink.{appended}
use Rattle.dp_edge.specs.Writing.{WritesFront}
use Rattle.dp_edge.proofs.FrontLemmas.{front_nothing}
use Rattle.dp_report.specs.EndText.{end_bytes}
use Rattle.dp_run.specs.RunText.{source_run}
use Rattle.dp_run.proofs.Whole.{all_explained, all_listed, all_written, end_is, front_at_end, front_of_run, tally_all}
use Rattle.dp_run.proofs.WholePrepared.{ahead_there, finished_there, regions_there, start_there}
use Rattle.dp_run.proofs.program.run_program.Goals as goal
use Rattle.dp_room.proofs.ResultLemmas.{on_err}

pub run_parts-requires-clause-ahead : goal.run_parts-requires-clause-ahead
run_parts-requires-clause-ahead g c κs within = (
  source_run c.args.prepared.now.program c.args.input.now c.args.options.fuel,
  0,
  ahead_there c.args.prepared.now.program c.args.prepared.now.plans c.args.input.now c.args.options.fuel c.args.options.why c.program-program.ensures.given
      c.program-program.result.now c.program-program.ensures.program c.in_ok-machine.machine c.in_ok-machine.ensures c.regions-regions.result.now
      c.regions-regions.ensures,
)

pub run_parts-requires-clause-regions : goal.run_parts-requires-clause-regions
run_parts-requires-clause-regions g c κs within = regions_there c.args.prepared.now.program c.args.prepared.now.plans c.args.input.now c.args.options.fuel
    c.args.options.why c.program-program.ensures.given c.program-program.result.now c.program-program.ensures.program c.in_ok-machine.machine
    c.in_ok-machine.ensures c.regions-regions.result.now c.regions-regions.ensures

pub returns-in_err-machine-clause-err : goal.returns-in_err-machine-clause-err
returns-in_err-machine-clause-err g c = on_err c.from_residual.result _ (front_nothing _ _ _ refl)

pub returns-in_err-machine-2-clause-err : goal.returns-in_err-machine-2-clause-err
returns-in_err-machine-2-clause-err g c =
    let p = c.args.prepared.now.program in let plans = c.args.prepared.now.plans in let input = c.args.input.now in let fuel = c.args.options.fuel in
    let why = c.args.options.why in let given = c.program-program.ensures.given in
    let start = start_there p plans input fuel why given c.program-program.result.now c.program-program.ensures.program c.in_ok-machine.machine
    c.in_ok-machine.ensures in
    on_err c.from_residual-in_err-machine-2.result _ (front_of_run p plans input fuel why given c.in_ok-machine.machine start (g.K.Sink.written c.args.sink.now)
    (g.K.Sink.written c.run_parts.new.sink) c.in_err-machine-2.ensures.front)

pub write_end-requires-clause-listed : goal.write_end-requires-clause-listed
write_end-requires-clause-listed g c =
    let p = c.args.prepared.now.program in let plans = c.args.prepared.now.plans in let input = c.args.input.now in let fuel = c.args.options.fuel in
    let why = c.args.options.why in let given = c.program-program.ensures.given in
    let last = c.in_ok-machine-2.machine in let end = c.end_of-end.result in let reports = c.run_parts.new.reports in let before = c.args.tally.now in
    let now = c.run_parts.new.tally in
    let done = finished_there p plans input fuel why given c.program-program.result.now c.program-program.ensures.program c.in_ok-machine.machine
    c.in_ok-machine.ensures c.regions-regions.result.now c.regions-regions.ensures last c.in_ok-machine-2.end end c.new-told.result reports before now
    c.new-told.ensures c.end_of-end.ensures c.in_ok-machine-2.ensures.ok in
    all_listed p plans input fuel why given last end reports before now done

pub write_end-requires-clause-explained : goal.write_end-requires-clause-explained
write_end-requires-clause-explained g c why_asked =
    let p = c.args.prepared.now.program in let plans = c.args.prepared.now.plans in let input = c.args.input.now in let fuel = c.args.options.fuel in
    let why = c.args.options.why in let given = c.program-program.ensures.given in
    let last = c.in_ok-machine-2.machine in let end = c.end_of-end.result in let reports = c.run_parts.new.reports in let before = c.args.tally.now in
    let now = c.run_parts.new.tally in
    let done = finished_there p plans input fuel why given c.program-program.result.now c.program-program.ensures.program c.in_ok-machine.machine
    c.in_ok-machine.ensures c.regions-regions.result.now c.regions-regions.ensures last c.in_ok-machine-2.end end c.new-told.result reports before now
    c.new-told.ensures c.end_of-end.ensures c.in_ok-machine-2.ensures.ok in
    all_explained p plans input fuel why given last end reports before now done why_asked

pub returns-in_err-write_end-clause-err : goal.returns-in_err-write_end-clause-err
returns-in_err-write_end-clause-err g c =
    let p = c.args.prepared.now.program in let plans = c.args.prepared.now.plans in let input = c.args.input.now in let fuel = c.args.options.fuel in
    let why = c.args.options.why in let given = c.program-program.ensures.given in
    let last = c.in_ok-machine-2.machine in let end = c.end_of-end.result in let reports = c.run_parts.new.reports in let before = c.args.tally.now in
    let now = c.run_parts.new.tally in
    let done = finished_there p plans input fuel why given c.program-program.result.now c.program-program.ensures.program c.in_ok-machine.machine
    c.in_ok-machine.ensures c.regions-regions.result.now c.regions-regions.ensures last c.in_ok-machine-2.end end c.new-told.result reports before now
    c.new-told.ensures c.end_of-end.ensures c.in_ok-machine-2.ensures.ok in
    let start = start_there p plans input fuel why given c.program-program.result.now c.program-program.ensures.program c.in_ok-machine.machine
    c.in_ok-machine.ensures in
    let cells = c.cells-cells.result.now in
    on_err c.from_residual-in_err-write_end.result _
    (front_at_end p plans input fuel why given last end reports before now done c.in_ok-machine.machine start (g.K.Sink.written c.args.sink.now)
    (g.K.Sink.written c.run_parts.new.sink) c.in_ok-machine-2.ensures.written cells c.cells-cells.ensures (g.K.Sink.written c.write_end.new.sink)
    (subst (λ (q : Program). WritesFront (end_bytes q cells reports end why) (g.K.Sink.written c.run_parts.new.sink) (g.K.Sink.written c.write_end.new.sink))
    c.program-program.ensures.program c.in_err-write_end.ensures.err))

pub returns-clause-ok : goal.returns-clause-ok
returns-clause-ok g c =
    let p = c.args.prepared.now.program in let plans = c.args.prepared.now.plans in let input = c.args.input.now in let fuel = c.args.options.fuel in
    let why = c.args.options.why in let given = c.program-program.ensures.given in
    let last = c.in_ok-machine-2.machine in let end = c.end_of-end.result in let reports = c.run_parts.new.reports in let before = c.args.tally.now in
    let now = c.run_parts.new.tally in
    let done = finished_there p plans input fuel why given c.program-program.result.now c.program-program.ensures.program c.in_ok-machine.machine
    c.in_ok-machine.ensures c.regions-regions.result.now c.regions-regions.ensures last c.in_ok-machine-2.end end c.new-told.result reports before now
    c.new-told.ensures c.end_of-end.ensures c.in_ok-machine-2.ensures.ok in
    let start = start_there p plans input fuel why given c.program-program.result.now c.program-program.ensures.program c.in_ok-machine.machine
    c.in_ok-machine.ensures in
    let cells = c.cells-cells.result.now in (
      end_is p plans input fuel why given last end reports before now done,
      all_written p plans input fuel why given last end reports before now done c.in_ok-machine.machine start (g.K.Sink.written c.args.sink.now)
          (g.K.Sink.written c.run_parts.new.sink) c.in_ok-machine-2.ensures.written cells c.cells-cells.ensures (g.K.Sink.written c.write_end.new.sink)
          (c.in_ok-write_end.ensures.ok ∙ ap (λ (q : Program). appended (end_bytes q cells reports end why) (g.K.Sink.written c.run_parts.new.sink))
          c.program-program.ensures.program),
    )

pub returns-clause-tally : goal.returns-clause-tally
returns-clause-tally g c =
    let p = c.args.prepared.now.program in let plans = c.args.prepared.now.plans in let input = c.args.input.now in let fuel = c.args.options.fuel in
    let why = c.args.options.why in let given = c.program-program.ensures.given in
    let last = c.in_ok-machine-2.machine in let end = c.end_of-end.result in let reports = c.run_parts.new.reports in let before = c.args.tally.now in
    let now = c.run_parts.new.tally in
    let done = finished_there p plans input fuel why given c.program-program.result.now c.program-program.ensures.program c.in_ok-machine.machine
    c.in_ok-machine.ensures c.regions-regions.result.now c.regions-regions.ensures last c.in_ok-machine-2.end end c.new-told.result reports before now
    c.new-told.ensures c.end_of-end.ensures c.in_ok-machine-2.ensures.ok in
    tally_all p plans input fuel why given last end reports before now done
