use Rattle.std.proofs.Common.{rules, ap, ◌∙◌, ◌≤◌, ◌<◌, ℕ, List, [], ◌∷◌, ◌++◌, length}
use Rattle.dp_base.specs.declared.Cause.{Cause}
use Rattle.dp_epoch.proofs.Counting.{told_grows, told_stays}
use Rattle.dp_epoch.proofs.report.list.Goals as goal

pub returns-then-len-ge-LISTED-clause-listed : goal.returns-then-len-ge-LISTED-clause-listed
returns-then-len-ge-LISTED-clause-listed c why r n again f e w =
    let many : 1000 ≤ length c.args.report.now.recovered = search rules in told_stays why r n again f c.args.report.now c.args.number e many

pub returns-clause-listed : goal.returns-clause-listed
returns-clause-listed c why r n again f e w =
    let few : length c.args.report.now.recovered < 1000 = search rules in
    ap (λ (ks : List ℕ). record c.args.report.now { recovered = ks; causes = c.push_cause.new.causes }) c.in_ok-push.ensures.ok
    ∙ ap (λ (cs : List Cause). record c.args.report.now { recovered = c.args.report.now.recovered ++ c.args.number ∷ []; causes = cs })
    c.in_ok-push_cause.ensures
    ∙ told_grows why r n again f c.args.report.now c.args.number c.args.cause e w few
