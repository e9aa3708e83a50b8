use Rattle.std.proofs.Common.{List, ℤ, subst, arith}
use Rattle.dp_room.proofs.ResultLemmas.{on_err}
use Rattle.dp_run.specs.Stretches.{FrontBefore, to_come}
use Rattle.dp_run.proofs.Before.{before_on, before_waiting}
use Rattle.dp_crew.proofs.StreamLemmas.{streams_stopped}
use Rattle.dp_run.proofs.StreamLemmas.{emits_flushed, front_flushed}
use Rattle.dp_run.proofs.plain.run_plain.Goals as goal

pub returns-in_err-flush-clause-streams : goal.returns-in_err-flush-clause-streams
returns-in_err-flush-clause-streams g c =
    streams_stopped _ (to_come c.args.machine.now) (λ _. to_come c.finish_plain.new.machine) _ _ c.from_residual-in_err-flush.ensures.0
    (front_flushed _ _ _ _ _ _ _ c.new-waiting.ensures c.in_ok-end.ensures.streams c.in_err-flush.ensures.streams)

pub returns-clause-streams : goal.returns-clause-streams
returns-clause-streams g c =
    emits_flushed _ _ _ _ _ _ _ _ c.new-waiting.ensures c.in_ok-flush.ensures.ok c.in_ok-end.ensures.streams c.in_ok-flush.ensures.streams

pub returns-in_err-end-clause-before : goal.returns-in_err-end-clause-before
returns-in_err-end-clause-before g c =
    on_err c.from_residual.result _ (subst (λ (xs : List ℤ). FrontBefore 0 xs c.args.machine.now (g.K.Sink.written c.args.sink.now)
    (g.K.Sink.written c.finish_plain.new.sink)) c.new-waiting.ensures c.in_err-end.ensures.before)

pub returns-in_err-flush-clause-before : goal.returns-in_err-flush-clause-before
returns-in_err-flush-clause-before g c =
    on_err c.from_residual-in_err-flush.result _
    (subst (λ (xs : List ℤ). FrontBefore 0 xs c.args.machine.now (g.K.Sink.written c.args.sink.now) (g.K.Sink.written c.flush.new.sink)) c.new-waiting.ensures
    (before_on c.args.machine.now c.finish_plain.new.machine 0 c.in_ok-end.ensures.passes _ _ _ _ _ c.in_ok-end.ensures.streams 0 (omega arith)
    (before_waiting _ c.finish_plain.new.machine _ _ 0 c.in_err-flush.ensures.streams)))
