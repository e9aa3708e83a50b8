use Rattle.std.proofs.Common.{◌≡◌, drop}
use Rattle.std.specs.List.{list_any}
use Rattle.dp_net.specs.Quiet.{is_assumed_at}
use Rattle.dp_lean_code.proofs.quiet.Runs.is_assumed.Given as goal

abbrev pub invariant-loop-assumed : goal.invariant-loop-assumed
invariant-loop-assumed l =
    list_any (is_assumed_at l.site.0) (drop l.assumed-index l.self.plan.now.assume) ≡ list_any (is_assumed_at l.site.0) l.self.plan.now.assume
