use Rattle.std.proofs.Common.{◌++◌, refl}
use Rattle.dp_run.specs.Stretches.{to_come}
use Rattle.dp_crew.proofs.StreamLemmas.{streams_stopped}
use Rattle.dp_run.proofs.Prints.{part_to_come, emits_called, front_called}
use Rattle.dp_room.proofs.ResultLemmas.{on_err}
use Rattle.dp_run.proofs.Before.{before_nothing, part_before}
use Rattle.dp_run.proofs.plain.go_on.Goals as goal

pub returns-in_err-flush_if_many-clause-streams : goal.returns-in_err-flush_if_many-clause-streams
returns-in_err-flush_if_many-clause-streams g c =
    let same = part_to_come c.in_ok-end.ensures.turns c.args.machine.now c.make_steps.new.machine c.args.waiting.now c.make_steps.new.waiting c.in_ok-end.end
    c.in_ok-end.ensures.call in
    streams_stopped _ (c.args.waiting.now ++ to_come c.args.machine.now) (λ _. c.flush_if_many.new.waiting ++ to_come c.make_steps.new.machine) _ _
    c.from_residual-in_err-flush_if_many.ensures.0
    (front_called c.args.machine.now c.make_steps.new.machine c.args.waiting.now c.make_steps.new.waiting c.flush_if_many.new.waiting _ _ same
    c.in_err-flush_if_many.ensures.streams)

pub returns-clause-streams : goal.returns-clause-streams
returns-clause-streams g c =
    let same = part_to_come c.in_ok-end.ensures.turns c.args.machine.now c.make_steps.new.machine c.args.waiting.now c.make_steps.new.waiting c.in_ok-end.end
    c.in_ok-end.ensures.call in
    emits_called c.args.machine.now c.make_steps.new.machine c.args.waiting.now c.make_steps.new.waiting c.flush_if_many.new.waiting _ _ same
    c.in_ok-flush_if_many.ensures.streams

pub returns-in_err-end-clause-before : goal.returns-in_err-end-clause-before
returns-in_err-end-clause-before g c = on_err c.from_residual.result _ (before_nothing c.args.waiting.now c.args.machine.now _ _ 0 refl)

pub returns-in_err-flush_if_many-clause-before : goal.returns-in_err-flush_if_many-clause-before
returns-in_err-flush_if_many-clause-before g c =
    on_err c.from_residual-in_err-flush_if_many.result _
    (part_before c.in_ok-end.ensures.turns c.args.machine.now c.make_steps.new.machine c.args.waiting.now c.make_steps.new.waiting c.in_ok-end.end
    c.in_ok-end.ensures.call _ _ c.in_err-flush_if_many.ensures.streams)
