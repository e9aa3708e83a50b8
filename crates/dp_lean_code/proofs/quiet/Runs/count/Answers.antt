use Rattle.std.proofs.Common.{◌≡◌, subst, ℕ, IfOk}
use Rattle.dp_lean_code.proofs.RunLists.{count_none, count_some}
use Rattle.dp_lean_code.proofs.quiet.Runs.count.Goals as goal

pub returns-then-not-pays : goal.returns-then-not-pays
returns-then-not-pays c =
    count_none c.args.self.program.now c.args.self.plan.now c.args.stage c.args.self.homes.now c.args.before c.args.all.now c.front.result.now _ _ _
    c.joins.ensures c.run-length.ensures c.front.ensures c.pays.ensures c.if-joins.false c.if-not-pays.true

pub returns : goal.returns
returns c =
    subst (λ (n : ℕ). IfOk c.number.result (λ (m : ℕ). m ≡ n))
    (count_some c.args.self.program.now c.args.self.plan.now c.args.stage c.args.self.homes.now c.args.before c.args.all.now c.front.result.now _ _ _
    c.joins.ensures c.run-length.ensures c.front.ensures c.pays.ensures c.if-joins.false c.if-not-pays.false) c.number.ensures
