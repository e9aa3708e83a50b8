use Rattle.std.proofs.Common.{◌≡◌, ap, ◌∙◌, Bool, List, not}
use Rattle.std.specs.List.{list_any}
use Rattle.dp_run_plan.proofs.Tables.{table_tells}
use Rattle.dp_run_plan.proofs.making.hides_nothing.Goals as goal

pub returns-clause-given : goal.returns-clause-given
returns-clause-given c =
    let same : c.as_slice.result.now ≡ c.args.plan.now.checked_at = c.as_slice.ensures in
    λ p inlined is. c.says_no.ensures ∙ ap (λ (l : List Bool). not (list_any (λ (b : Bool). b) l)) same ∙ table_tells p inlined c.args.plan.now is
