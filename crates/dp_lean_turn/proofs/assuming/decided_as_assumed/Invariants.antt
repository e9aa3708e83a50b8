use Rattle.std.proofs.Common.{◌≡◌, drop}
use Rattle.std.specs.List.{list_all}
use Rattle.dp_tree.specs.Step.{Decided}
use Rattle.dp_semantics.specs.Clean.{goes_as}
use Rattle.dp_lean_turn.proofs.assuming.decided_as_assumed.Given as goal

abbrev pub invariant-loop-assumed : goal.invariant-loop-assumed
invariant-loop-assumed l =
    list_all (goes_as l.site.0 (Decided l.value)) (drop l.assumed-index l.plan.assume) ≡ list_all (goes_as l.site.0 (Decided l.value)) l.plan.assume
