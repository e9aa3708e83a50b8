use Rattle.std.proofs.Common.{◌<◌, ◌≤◌, ℕ, subst, arith}
use Rattle.dp_least_cut.proofs.Beginnings.{late, stands_back}
use Rattle.dp_least_cut.proofs.places.first_kind.Goals as goal

pub returns-else-rest_needs-left-clause-none : goal.returns-else-rest_needs-left-clause-none
returns-else-rest_needs-left-clause-none c carried right r stand fits =
    let few : c.args.left ≤ 8 = omega arith in
    late c.args.costs.weights.now c.args.costs.limits.now c.args.costs.workers c.args.bound c.requires.costs carried right c.args.needs.now.after_seq.items
    c.args.needs.now.after_par.items (c.requires.seq carried right) (c.requires.par carried right)
    c.args.left c.args.closed c.args.begin c.args.end c.in-Some.replicated few c.requires.within c.in-Some.ensures.least
    (subst (λ (x : ℕ). c.args.left < x) c.rest_needs.ensures c.if-rest_needs-left.false) r stand fits

pub returns-in-None-clause-none : goal.returns-in-None-clause-none
returns-in-None-clause-none c carried right r stand fits =
    c.in-None.ensures.none r (stands_back c.args.costs.weights.now c.args.costs.limits.now c.args.costs.workers c.args.bound c.requires.costs carried right
    c.args.closed c.args.begin c.args.end r stand)
