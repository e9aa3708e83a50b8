use Rattle.std.proofs.Common.{◌∙◌, refl}
use Rattle.dp_audit.proofs.RunnerLemmas.{stands_told}
use Rattle.dp_audit.proofs.runner.Runner.begin.Goals as goal

pub returns : goal.returns
returns c =
    stands_told c.args.region.now.program c.args.region.now.plan c.args.input.now c.args.machine c.requires.start
    c.program-program.ensures.planned c.requires.fuel
    c.plan-plan.result.now c.plan-plan.ensures c.program-program.result.now c.program-program.ensures.value
    (record { alloc = c.args.alloc; region = c.args.region; input = c.args.input; size = c.args.size; setter = c.in_ok-setter.setter })
    c.in_ok-ledger.ledger c.in_ok-known.known refl refl refl
    c.in_ok-ledger.ensures.committed c.in_ok-ledger.ensures.account c.in_ok-ledger.ensures.waiting c.in_ok-known.ensures.ascending c.in_ok-known.ensures.locals
    (c.in_ok-known.ensures.cells ∙ c.cells.ensures)
