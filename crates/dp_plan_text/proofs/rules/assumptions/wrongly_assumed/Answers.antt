use Rattle.std.proofs.Common.{ap, ◌∙◌, map, IsPermutation, subst, Option, ℕ, List, filter}
use Rattle.dp_plan.specs.Rules.{least, site_of_condition}
use Rattle.dp_plan_text.specs.steps.Tables.{lesser_of, is_outside}
use Rattle.dp_plan_text.proofs.RuleLemmas.{wrong_either}
use Rattle.dp_plan_text.proofs.rules.assumptions.wrongly_assumed.Goals as goal

pub returns : goal.returns
returns c =
    let assumed = c.args.assumed.now in
    let conditions = map site_of_condition c.args.ifs.now in
    let moved = subst (λ (l : List ℕ). IsPermutation l c.in_order-own.result) c.in_ok-condition_sites.ensures c.in_order-own.ensures.permutation in
    c.lesser_of.ensures
    ∙ ap (λ (o : Option ℕ). lesser_of o c.least_repeated-again.result) (c.least_outside-other.ensures
    ∙ ap (λ (l : List ℕ). least (filter (is_outside l) assumed)) c.as_slice.ensures)
    ∙ ap (λ (o : Option ℕ). lesser_of (least (filter (is_outside c.in_order-own.result) assumed)) o) c.least_repeated-again.ensures
    ∙ wrong_either conditions c.in_order-own.result assumed moved
