use Rattle.std.proofs.Common.{List, ℤ, subst}
use Rattle.dp_report.specs.PrintsText.{prints_bytes}
use Rattle.dp_edge.specs.Writing.{WritesFront}
use Rattle.dp_crew.specs.Output.{Emits}
use Rattle.dp_epoch.specs.Remade.{some}
use Rattle.dp_crew.proofs.recover.go_on.Goals as goal
use Rattle.dp_room.proofs.ResultLemmas.{on_err}

pub returns-clause-ok : goal.returns-clause-ok
returns-clause-ok g c =
    let q = c.in_ok-end.ensures.ok in (
      q.0,
      q.1,
      subst (λ (xs : List ℤ). Emits xs c.flush_if_many.new.waiting (g.K.Sink.written c.args.sink.now) (g.K.Sink.written c.flush_if_many.new.sink)) q.2
          c.in_ok-flush_if_many.ensures.streams,
    )

pub returns-in_err-flush_if_many-clause-err : goal.returns-in_err-flush_if_many-clause-err
returns-in_err-flush_if_many-clause-err g c =
    let q = c.in_ok-end.ensures.ok in
    on_err c.from_residual-in_err-flush_if_many.result _ (
      q.0,
      some c.recover.new.self.committed c.in_ok-end.end q.1,
      subst (λ (xs : List ℤ). WritesFront (prints_bytes xs) (g.K.Sink.written c.args.sink.now) (g.K.Sink.written c.flush_if_many.new.sink)) q.2
          c.in_err-flush_if_many.ensures.streams,
    )
