use Rattle.std.proofs.Common.{◌≡◌, ◌+◌, ◌<◌, ap, ◌∙◌, arith, length}
use Rattle.dp_lean_code.specs.steps.Needs.{accesses_in, done_among}
use Rattle.dp_lean_code.proofs.NeedLists.{number_next}
use Rattle.dp_lean_code.proofs.needs.Needs.done_in.Goals as goal

pub loop-var-preserved : goal.loop-var-preserved
loop-var-preserved c =
    let p = c.args.self.program.now in let plan = c.args.self.plan.now in let all = accesses_in c.args.self.accesses.now in
    let many = c.in_ok-count.ensures in let here = c.loop-var-test.true in
    let below : c.loop-var.var < length c.args.self.program.now.vars = omega (arith, here, many) in
    let from : c.loop-var.var ≡ 0 + c.loop-var.var = omega arith in
    number_next (done_among p plan all c.args.stage) c.loop-var.row _ _ _ 0 c.loop-var.var (length p.vars) below (c.is_done_to.ensures
    ∙ ap (done_among p plan all c.args.stage) from) c.in_ok-push.ensures.ok c.loop-var.invariant
