use Rattle.std.proofs.Common.{◌≡◌, drop}
use Rattle.std.proofs.Common.{◌++◌}
use Rattle.std.proofs.Common.{None}
use Rattle.dp_lean_code.specs.steps.Runs.{list_counts}
use Rattle.dp_lean_code.proofs.quiet.Runs.+counts.Given as goal

abbrev pub invariant-put_all-loop-place : goal.invariant-put_all-loop-place
invariant-put_all-loop-place l =
    l.out ++ list_counts l.self.program.now l.self.plan.now l.self.homes.now l.before (drop l.place l.all) ≡ l.initial.out ++ list_counts l.self.program.now
    l.self.plan.now l.self.homes.now None l.all
