use Rattle.std.proofs.Common.{refl, sym, ◌∙◌, subst, List}
use Rattle.dp_net.specs.NetPackets.{NetGoing, NetClosing, NetVoid}
use Rattle.dp_judge.specs.declared.verdict.Verdict.{Verdict}
use Rattle.dp_lean_machine.specs.Sent.{AsStatus}
use Rattle.dp_lean_machine.specs.declared.batch.BatchStatus.{BatchStatus}
use Rattle.dp_judge.specs.steps.Within.{CleanTo}
use Rattle.dp_judge.proofs.Beginning.{clean_begins}
use Rattle.dp_judge.proofs.court.LeanCourt.decide_known.Goals as goal

pub returns-in-NoMemory : goal.returns-in-NoMemory
returns-in-NoMemory c = record {
  came = λ e b at sent none. (
    0,
    subst (λ (vs : List Verdict). CleanTo e b 0 c.args.self.now.bench.left c.args.self.now.bench.cells vs) (sym none) (clean_begins e b c.args.self.now at),
  );
}

pub returns-in-Going : goal.returns-in-Going
returns-in-Going c = record {
  came = λ e b at sent none. c.decide.ensures.came e b NetGoing (subst (λ (s : BatchStatus). AsStatus s NetGoing) (sym c.in-Going.is
      ∙ c.status.ensures) refl) at sent none;
}

pub returns-in-Closing : goal.returns-in-Closing
returns-in-Closing c = record {
  came = λ e b at sent none. c.decide-in-Closing.ensures.came e b NetClosing (subst (λ (s : BatchStatus). AsStatus s NetClosing) (sym c.in-Closing.is
      ∙ c.status.ensures) refl) at sent none;
}

pub returns-in-Void : goal.returns-in-Void
returns-in-Void c = record {
  came = λ e b at sent none. c.decide-in-Void.ensures.came e b NetVoid (subst (λ (s : BatchStatus). AsStatus s NetVoid) (sym c.in-Void.is
      ∙ c.status.ensures) refl) at sent none;
}
