use Rattle.std.proofs.Common.{◌∙◌, ap, refl, ℕ, false, List, ◌++◌}
use Rattle.dp_log.specs.LogText.{first_line}
use Rattle.dp_edge.proofs.FrontLemmas.{front_nothing}
use Rattle.dp_room.proofs.ResultLemmas.{on_err}
use Rattle.dp_run.specs.RunText.{source_run}
use Rattle.dp_run.proofs.WholePrepared.{ahead_there, regions_there}
use Rattle.dp_logging.proofs.WholeLog.{all_poured, ends_so, front_at_last, front_of_log, front_poured, lines_are}
use Rattle.dp_logging.proofs.program.log_program.Goals as goal

pub log_parts-requires-clause-ahead : goal.log_parts-requires-clause-ahead
log_parts-requires-clause-ahead g c =
    let p = c.args.prepared.now.program in let plans = c.args.prepared.now.plans in let input = c.args.input.now in let fuel = c.args.options.fuel in
    let given = c.program.ensures.given in
    let lent = c.program.result.now in let same = c.program.ensures.program in let m = c.in_ok-machine.machine in let begun = c.in_ok-machine.ensures in
    let regions = c.regions.result.now in let are = c.regions.ensures in
    (source_run p input fuel, 0, ahead_there p plans input fuel false given lent same m begun regions are)

pub log_parts-requires-clause-regions : goal.log_parts-requires-clause-regions
log_parts-requires-clause-regions g c =
    let p = c.args.prepared.now.program in let plans = c.args.prepared.now.plans in let input = c.args.input.now in let fuel = c.args.options.fuel in
    let given = c.program.ensures.given in
    let lent = c.program.result.now in let same = c.program.ensures.program in let m = c.in_ok-machine.machine in let begun = c.in_ok-machine.ensures in
    let regions = c.regions.result.now in let are = c.regions.ensures in
    regions_there p plans input fuel false given lent same m begun regions are

pub returns-in_err-put_first-clause-err : goal.returns-in_err-put_first-clause-err
returns-in_err-put_first-clause-err g c = on_err c.from_residual.result _ (front_nothing _ _ _ refl)

pub returns-in_err-machine-clause-err : goal.returns-in_err-machine-clause-err
returns-in_err-machine-clause-err g c = on_err c.from_residual-in_err-machine.result _ (front_nothing _ _ _ refl)

pub returns-in_err-_machine-clause-err : goal.returns-in_err-_machine-clause-err
returns-in_err-_machine-clause-err g c =
    let p = c.args.prepared.now.program in let plans = c.args.prepared.now.plans in let input = c.args.input.now in let fuel = c.args.options.fuel in
    let given = c.program.ensures.given in
    let lent = c.program.result.now in let same = c.program.ensures.program in let m = c.in_ok-machine.machine in let begun = c.in_ok-machine.ensures in
    let regions = c.regions.result.now in let are = c.regions.ensures in
    let first = c.in_ok-put_first.ensures ∙ ap (λ (x : List ℕ). x ++ first_line) c.new-out.ensures in
    let told = g.K.Sink.written c.args.sink.now in let mid = g.K.Sink.written c.log_parts.new.sink in let out = c.log_parts.new.out in
    let a = ahead_there p plans input fuel false given lent same m begun regions are in
    on_err c.from_residual-in_err-_machine.result _
    (front_of_log p plans input fuel given told mid mid out c.put_first.new.out first _ (lines_are p plans input fuel given lent same m begun regions are)
    (c.in_err-_machine.ensures.streams (source_run p input fuel) 0 a))

pub returns-in_err-put_end-clause-err : goal.returns-in_err-put_end-clause-err
returns-in_err-put_end-clause-err g c =
    let p = c.args.prepared.now.program in let plans = c.args.prepared.now.plans in let input = c.args.input.now in let fuel = c.args.options.fuel in
    let given = c.program.ensures.given in
    let lent = c.program.result.now in let same = c.program.ensures.program in let m = c.in_ok-machine.machine in let begun = c.in_ok-machine.ensures in
    let regions = c.regions.result.now in let are = c.regions.ensures in
    let first = c.in_ok-put_first.ensures ∙ ap (λ (x : List ℕ). x ++ first_line) c.new-out.ensures in
    let told = g.K.Sink.written c.args.sink.now in let mid = g.K.Sink.written c.log_parts.new.sink in let out = c.log_parts.new.out in
    let a = ahead_there p plans input fuel false given lent same m begun regions are in
    on_err c.from_residual-in_err-put_end.result _
    (front_poured p plans input fuel given told mid mid out c.put_first.new.out first _ (lines_are p plans input fuel given lent same m begun regions are)
    (c.in_ok-_machine.ensures.streams (source_run p input fuel) 0 a))

pub returns-in_err-pour-clause-err : goal.returns-in_err-pour-clause-err
returns-in_err-pour-clause-err g c =
    let p = c.args.prepared.now.program in let plans = c.args.prepared.now.plans in let input = c.args.input.now in let fuel = c.args.options.fuel in
    let given = c.program.ensures.given in
    let lent = c.program.result.now in let same = c.program.ensures.program in let m = c.in_ok-machine.machine in let begun = c.in_ok-machine.ensures in
    let regions = c.regions.result.now in let are = c.regions.ensures in
    let first = c.in_ok-put_first.ensures ∙ ap (λ (x : List ℕ). x ++ first_line) c.new-out.ensures in
    let told = g.K.Sink.written c.args.sink.now in let mid = g.K.Sink.written c.log_parts.new.sink in let out = c.log_parts.new.out in
    let run = source_run p input fuel in
    let a = ahead_there p plans input fuel false given lent same m begun regions are in
    let ends = ends_so p plans input fuel given lent same m begun regions are c.in_ok-_machine._machine c.in_ok-_machine.end c.end_of-end.result
    c.end_of-end.ensures (c.in_ok-_machine.ensures.ok run 0 a) in
    on_err c.from_residual-in_err-pour.result _
    (front_at_last p plans input fuel given told mid (g.K.Sink.written c.pour.new.sink) out c.put_first.new.out first _
    (lines_are p plans input fuel given lent same m begun regions are)
    c.end_of-end.result ends c.put_end.new.out c.in_ok-put_end.ensures (c.in_ok-_machine.ensures.streams run 0 a) c.in_err-pour.ensures.streams)

pub returns-clause-ok : goal.returns-clause-ok
returns-clause-ok g c =
    let p = c.args.prepared.now.program in let plans = c.args.prepared.now.plans in let input = c.args.input.now in let fuel = c.args.options.fuel in
    let given = c.program.ensures.given in
    let lent = c.program.result.now in let same = c.program.ensures.program in let m = c.in_ok-machine.machine in let begun = c.in_ok-machine.ensures in
    let regions = c.regions.result.now in let are = c.regions.ensures in
    let first = c.in_ok-put_first.ensures ∙ ap (λ (x : List ℕ). x ++ first_line) c.new-out.ensures in
    let told = g.K.Sink.written c.args.sink.now in let mid = g.K.Sink.written c.log_parts.new.sink in let out = c.log_parts.new.out in
    let run = source_run p input fuel in
    let a = ahead_there p plans input fuel false given lent same m begun regions are in
    let ends = ends_so p plans input fuel given lent same m begun regions are c.in_ok-_machine._machine c.in_ok-_machine.end c.end_of-end.result
    c.end_of-end.ensures (c.in_ok-_machine.ensures.ok run 0 a) in (
      ends,
      all_poured p plans input fuel given told mid (g.K.Sink.written c.pour.new.sink) out c.put_first.new.out first _
          (lines_are p plans input fuel given lent same m begun regions are)
          c.end_of-end.result ends c.put_end.new.out c.in_ok-put_end.ensures (c.in_ok-_machine.ensures.streams run 0 a) c.pour.new.out c.in_ok-pour.ensures.ok
          c.in_ok-pour.ensures.streams,
    )
