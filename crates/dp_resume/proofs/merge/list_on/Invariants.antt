use Rattle.std.proofs.Common.{◌≡◌, ◌+◌, ◌≤◌, ◌++◌, map, take, drop, length}
use Rattle.dp_base.specs.declared.limits.TheConstants.{LISTED}
use Rattle.dp_resume.proofs.merge.list_on.Given as goal

abbrev pub invariant-loop-number : goal.invariant-loop-number
invariant-loop-number l =
    (take LISTED (l.listed ++ map (λ i. l.before + i) (drop l.number-index l.numbers)) ≡ take LISTED (l.initial.listed ++ map (λ i. l.before + i) l.numbers))
    × (length l.listed ≤ LISTED)
