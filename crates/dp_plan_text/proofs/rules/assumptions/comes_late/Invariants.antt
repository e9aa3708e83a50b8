use Rattle.std.proofs.Common.{◌≡◌, drop, nat_lt}
use Rattle.std.specs.List.{list_any}
use Rattle.dp_plan.specs.Written as written
use Rattle.dp_plan_text.proofs.rules.assumptions.comes_late.Given as goal

abbrev pub invariant-loop-site : goal.invariant-loop-site
invariant-loop-site l =
    list_any (λ site. nat_lt (written.written_stage l.w site) l.stage) (drop l.site-index l.inside)
    ≡ list_any (λ site. nat_lt (written.written_stage l.w site) l.stage) l.inside
