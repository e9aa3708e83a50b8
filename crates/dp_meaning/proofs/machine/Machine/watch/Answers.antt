use Rattle.dp_meaning.proofs.Names.{◌∙◌, sym, ap, MachineState}
use Rattle.dp_meaning.proofs.WatchedLemmas.{watches_no_more}
use Rattle.dp_meaning.proofs.machine.Machine.watch.Goals as goal

pub returns-then-self-clause-err : goal.returns-then-self-clause-err
returns-then-self-clause-err c = watches_no_more c.args.self.now c.args.out.now (ap (λ (m : MachineState). m.spoiled) (sym c.self.view_is) ∙ c.if-self.true)
