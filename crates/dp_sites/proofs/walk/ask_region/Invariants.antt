use Rattle.std.proofs.Common.{◌≡◌, ◌++◌, drop}
use Rattle.dp_sites.specs.Lists.{asked_in_region}
use Rattle.dp_sites.proofs.walk.ask_region.Given as goal

abbrev pub invariant-loop-statement : goal.invariant-loop-statement
invariant-loop-statement g l =
    l.found ++ asked_in_region g.Q.Question.gives l.region (drop l.statement-index l.p.main) ≡ asked_in_region g.Q.Question.gives l.region l.p.main
