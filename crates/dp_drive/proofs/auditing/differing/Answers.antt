use Rattle.std.proofs.Common.{◌∙◌, ap, Ok}
use Rattle.dp_drive.proofs.AuditLemmas.{answered_at, differs_as, same_as}
use Rattle.dp_drive.proofs.auditing.differing.Goals as goal

pub returns-in-Same : goal.returns-in-Same
returns-in-Same c =
    same_as _ _ (answered_at _ _ _ _ _ _ _ _ _ _ c.as_slice-plans.ensures c.as_slice-input.ensures c.as_slice-text.ensures (c.in_ok-audit.was
    ∙ ap Ok c.in-Same.is) c.audit.ensures)

pub returns-in-Differs : goal.returns-in-Differs
returns-in-Differs c =
    differs_as _ _ _ (answered_at _ _ _ _ _ _ _ _ _ _ c.as_slice-plans.ensures c.as_slice-input.ensures c.as_slice-text.ensures (c.in_ok-audit.was
    ∙ ap Ok c.in-Differs.is) c.audit.ensures)
