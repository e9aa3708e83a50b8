use Rattle.std.proofs.Common.{take, ◌∙◌, ap}
use Rattle.dp_check.specs.Place.{parts_all, place_passed}
use Rattle.dp_check.proofs.ItemLemmas.{function_ends}
use Rattle.dp_check.proofs.items.function.Goals as goal

pub returns-clause-place : goal.returns-clause-place
returns-clause-place c =
    let q = c.in_ok-body.ensures.place ∙ ap (λ r. place_passed r (parts_all c.args.body.now)) c.in_ok-params.ensures.place in
    (λ i. record (q i) { names = c.keep.new.self })
    ∙ function_ends c.args.place.now c.args.params.now c.args.body.now c.keep.new.self (c.keep.ensures ∙ (λ i. take (c.len-count.ensures i) (q i).names))
