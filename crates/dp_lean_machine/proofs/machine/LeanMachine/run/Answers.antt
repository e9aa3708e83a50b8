use Rattle.dp_semantics.proofs.Names.{refl, sym, subst}
use Rattle.dp_net.specs.NetPackets.{NetGoing, NetClosing, NetVoid}
use Rattle.dp_lean_machine.specs.Sent.{AsStatus}
use Rattle.dp_lean_machine.specs.declared.batch.BatchStatus.{BatchStatus}
use Rattle.dp_lean_machine.proofs.machine.LeanMachine.run.Goals as goal

pub returns-in-Going-clause-sent : goal.returns-in-Going-clause-sent
returns-in-Going-clause-sent c e b at sent = c.go.ensures.sent e b NetGoing (subst (λ (x : BatchStatus). AsStatus x NetGoing) (sym c.in-Going.is) refl) at sent

pub returns-in-Closing-clause-sent : goal.returns-in-Closing-clause-sent
returns-in-Closing-clause-sent c e b at sent =
    c.go-in-Closing.ensures.sent e b NetClosing (subst (λ (x : BatchStatus). AsStatus x NetClosing) (sym c.in-Closing.is) refl) at sent

pub returns-in-Void-clause-sent : goal.returns-in-Void-clause-sent
returns-in-Void-clause-sent c e b at sent =
    c.go-in-Void.ensures.sent e b NetVoid (subst (λ (x : BatchStatus). AsStatus x NetVoid) (sym c.in-Void.is) refl) at sent
