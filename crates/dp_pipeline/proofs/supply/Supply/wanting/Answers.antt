use Rattle.std.proofs.Common.{rules, ◌≡◌, Some, subst}
use Rattle.dp_lean_machine.specs.declared.batch.LeanBatch.{LeanBatch}
use Rattle.dp_lean_machine.specs.Fresh.{IsFresh}
use Rattle.dp_pipeline.proofs.Supplied.{last_supplied}
use Rattle.dp_pipeline.proofs.supply.Supply.wanting.Goals as goal

pub returns-in-Some-clause-fresh : goal.returns-in-Some-clause-fresh
returns-in-Some-clause-fresh c =
    let there : c.args.self.now.last ≡ Some c.in-Some.last = search rules in
    last_supplied c.args.self.now c.in-Some.last c.renew.new.self c.wanting.new.self c.args.first c.args.size there
    (subst (λ (batch : LeanBatch). IsFresh batch.line c.args.first c.args.size c.renew.new.self) c.get_mut-batch.ensures.value c.renew.ensures.fresh)
    c.wanting.ensures.status
    c.wanting.ensures.line c.wanting.ensures.first
