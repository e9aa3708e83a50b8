use Rattle.std.proofs.Common.{◌≡◌, ◌∙◌, sym, subst, None}
use Rattle.std.proofs.lemmas.Result.{IfOk-weaker}
use Rattle.dp_audit.specs.Runs.{InItsEpoch}
use Rattle.dp_audit.proofs.RunnerLemmas.{begun, sound}
use Rattle.dp_audit.proofs.runner.Runner.current.Goals as goal

pub begin-requires-clause-sound : goal.begin-requires-clause-sound
begin-requires-clause-sound c =
    let s = c.requires.stands in
    let none : c.args.self.now.verdicts ≡ None = sym c.take.ensures.value ∙ c.in-None.is in
    sound s.0 s.1 s.2 s.3 c.args.self.now s.5.kept (subst (InItsEpoch s.1 s.3 c.args.self.now.ledger) none s.5.epoch)

pub returns-in-None-clause-verdicts : goal.returns-in-None-clause-verdicts
returns-in-None-clause-verdicts c =
    let none : c.args.self.now.verdicts ≡ None = sym c.take.ensures.value ∙ c.in-None.is in
    IfOk-weaker c.begin.result _ _
    (λ v is p plan input first n s. begun p plan input first c.args.self.now s.kept (subst (InItsEpoch plan first c.args.self.now.ledger) none s.epoch) v is)
    c.begin.ensures.verdicts
