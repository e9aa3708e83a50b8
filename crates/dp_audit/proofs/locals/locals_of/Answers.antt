use Rattle.std.proofs.Common.{sym, ◌∙◌}
use Rattle.dp_audit.proofs.CopyLemmas.{has_moved}
use Rattle.dp_audit.proofs.locals.locals_of.Goals as goal

pub returns-clause-cells : goal.returns-clause-cells
returns-clause-cells c = λ cell. sym (has_moved cell _ _ c.in_order.ensures.permutation) ∙ c.in_ok-locals.ensures cell
