use Rattle.dp_lean_code.specs.steps.Needs.{accesses_in}
use Rattle.dp_lean_code.proofs.NeedLists.{private_there}
use Rattle.dp_lean_code.proofs.needs.Needs.private_home.Goals as goal

pub returns-then-is_kept_in : goal.returns-then-is_kept_in
returns-then-is_kept_in c =
    private_there c.args.self.program.now c.args.self.plan.now (accesses_in c.args.self.accesses.now) c.args.var _ _ _ _
    c.first_storing.ensures c.first_loading-home.ensures c.is_local.ensures c.is_kept_in.ensures c.if-is_local.true c.if-is_kept_in.true
