use Rattle.dp_meaning.proofs.Names.{◌∙◌, sym, ap, subst, MachineState, PartRun}
use Rattle.dp_meaning.specs.declared.ends.PartEnd.{PartEnd}
use Rattle.dp_meaning.proofs.StretchLemmas.{already_spoiled}
use Rattle.dp_meaning.proofs.StretchEnds.{as_part}
use Rattle.dp_meaning.proofs.machine.Machine.run_part.Goals as goal

pub returns-then-self-clause-runs : goal.returns-then-self-clause-runs
returns-then-self-clause-runs c =
    already_spoiled c.args.turns c.args.self.now c.args.out.now c.requires.turns (ap (λ (m : MachineState). m.spoiled) (sym c.self.view_is) ∙ c.if-self.true)

pub returns-in-Ok-clause-runs : goal.returns-in-Ok-clause-runs
returns-in-Ok-clause-runs c =
    subst (λ (end : PartEnd). PartRun c.args.turns c.args.self.now c.go_on.new.self c.args.out.now c.go_on.new.out end) (sym c.of_part.ensures)
    (as_part c.args.turns c.args.self.now c.go_on.new.self c.args.out.now c.go_on.new.out c.requires.part c.in-Ok.end c.in-Ok.ensures)
