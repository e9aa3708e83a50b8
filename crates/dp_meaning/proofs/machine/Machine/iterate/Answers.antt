use Rattle.dp_meaning.proofs.Names.{◌∙◌, sym, ap, subst, MachineState, UnderWay}
use Rattle.dp_meaning.proofs.StretchLemmas.{already_spoiled}
use Rattle.dp_meaning.proofs.StretchEnds.{iterated}
use Rattle.dp_meaning.proofs.machine.Machine.iterate.Goals as goal

pub returns-then-self-clause-runs : goal.returns-then-self-clause-runs
returns-then-self-clause-runs c region is =
    already_spoiled c.args.turns c.args.self.now c.args.out.now c.requires.turns (ap (λ (m : MachineState). m.spoiled) (sym c.self.view_is) ∙ c.if-self.true)

pub returns-clause-runs : goal.returns-clause-runs
returns-clause-runs c region here =
    iterated region c.args.turns c.args.self.now c.go_on.new.self c.args.out.now c.go_on.new.out
    (subst (λ (m : MachineState). UnderWay m.current m.config.to_do) c.self.view_is c.self.invariant.under_way) here c.go_on.result c.go_on.ensures
