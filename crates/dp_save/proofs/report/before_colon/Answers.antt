use Rattle.std.proofs.Common.{◌≡◌, ◌==◌, true, false, Some, None, sym, ap, ◌∙◌, rules, tests}
use Rattle.std.specs.Prelude.{if◌then◌else◌}
use Rattle.dp_save.specs.steps.LineWords.{before_colon}
use Rattle.dp_save.proofs.ColonLemmas.{colon_last}
use Rattle.dp_save.proofs.report.before_colon.Goals as goal

pub returns-then-last-eq58 : goal.returns-then-last-eq58
returns-then-last-eq58 c =
    let digits = c.in_ok-last.digits.now in
    let is : (c.in_ok-last.last.now == 58) ≡ true = search (rules, tests) in
    sym (ap before_colon c.in_ok-last.ensures.cases.0 ∙ colon_last digits c.in_ok-last.last.now ∙ ap (λ b. if b then Some digits else None) is)

pub returns-else-last-eq58 : goal.returns-else-last-eq58
returns-else-last-eq58 c =
    let digits = c.in_ok-last.digits.now in
    let is : (c.in_ok-last.last.now == 58) ≡ false = search (rules, tests) in
    sym (ap before_colon c.in_ok-last.ensures.cases.0 ∙ colon_last digits c.in_ok-last.last.now ∙ ap (λ b. if b then Some digits else None) is)
