use Rattle.std.proofs.Common.{ℕ, List, ◌++◌, drop}
use Rattle.std.specs.Option.{option_copied}
use Rattle.dp_explain.specs.Explanation.{Reasons}
use Rattle.dp_explain.proofs.reasons.reasons_of.Given as goal

-- with what is still to come it is the text of all
abbrev pub invariant-loop-plan : goal.invariant-loop-plan
invariant-loop-plan l =
    (later : List ℕ) → Reasons l.p (option_copied l.profile) l.rate (drop l.plan-index l.plans) later →
    Reasons l.p (option_copied l.profile) l.rate l.plans (l.out ++ later)
