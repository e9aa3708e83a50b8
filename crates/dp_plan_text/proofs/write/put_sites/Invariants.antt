use Rattle.std.proofs.Common.{◌≡◌, ◌++◌, drop}
use Rattle.dp_text.specs.Labels.{spaced}
use Rattle.dp_plan_text.specs.WrittenText.{sites_at}
use Rattle.dp_plan_text.proofs.write.put_sites.Given as goal

abbrev pub invariant-loop-site : goal.invariant-loop-site
invariant-loop-site l =
    l.out ++ spaced (sites_at l.p l.plan l.stage (drop l.site-index l.sites)) ≡ l.initial.out ++ spaced (sites_at l.p l.plan l.stage l.sites)
