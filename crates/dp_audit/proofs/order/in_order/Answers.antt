use Rattle.std.proofs.Common.{sym, subst}
use Rattle.std.specs.List.Sorted.{IsNonDecreasing}
use Rattle.std.proofs.lemmas.List.Sorted.{IsNonDecreasingBy-from_sort}
use Rattle.dp_audit.proofs.order.in_order.Goals as goal

pub returns-clause-ascending : goal.returns-clause-ascending
returns-clause-ascending c = subst IsNonDecreasing (sym c.from_vec.ensures) (IsNonDecreasingBy-from_sort (λ x. x) _ c.sort_unstable.ensures.sorted)
