use Rattle.std.proofs.Common.{◌≡◌, ◌≤◌, ◌+◌}
use Rattle.dp_plan.specs.declared.Plan.{Plan}
use Rattle.dp_meaning.specs.MachineState.{MachineState}
use Rattle.dp_epoch.specs.Applied.{HasRoomForVerdicts, steps_left}
use Rattle.dp_epoch.specs.Followed.{IsFollowed}
use Rattle.dp_epoch.specs.Prints.{prints_to_come}
use Rattle.dp_crew.specs.Output.{Emits}
use Rattle.dp_crew.proofs.following.follow_verdicts.Given as goal

abbrev pub invariant-verdicts : goal.invariant-verdicts
invariant-verdicts g l = record {
  followed : (plan : Plan) (first : MachineState) → l.fn.words ≡ plan.words → IsFollowed plan l.fn.verdicts.key l.fn.verdicts.given first l.fn.ledger.committed
      l.fn.ledger.account →
      IsFollowed plan l.fn.verdicts.key l.verdicts.given first l.ledger.committed l.ledger.account;
  key : l.verdicts.key ≡ l.fn.verdicts.key;
  tally : l.tally + l.fn.ledger.committed.count ≡ l.fn.tally + l.ledger.committed.count;
  left : steps_left l.ledger.committed ≤ steps_left l.fn.ledger.committed;
  room : HasRoomForVerdicts l.tally l.ledger.committed;
  report : l.ledger.account.report ≡ record l.fn.ledger.account.report { iterations = l.ledger.committed.count };
  why : l.ledger.account.why ≡ l.fn.ledger.account.why;
  emits : (plan : Plan) (first : MachineState) → l.fn.words ≡ plan.words → IsFollowed plan l.fn.verdicts.key l.fn.verdicts.given first l.fn.ledger.committed
      l.fn.ledger.account →
      Emits (prints_to_come plan first l.fn.ledger.waiting l.fn.ledger.committed.count) (prints_to_come plan first l.ledger.waiting l.ledger.committed.count)
      (g.K.Sink.written l.fn.sink) (g.K.Sink.written l.sink);
  faults : g.K.Sink.faults l.sink ≡ g.K.Sink.faults l.fn.sink;
}

abbrev pub decreases-verdicts : goal.decreases-verdicts
decreases-verdicts g l = steps_left l.ledger.committed
