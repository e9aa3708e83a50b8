use Rattle.std.proofs.Common.{◌<◌, ℕ, List, subst, sym, slice_index}
use Rattle.dp_least_cut.specs.LeastCut.{IsLeastCut}
use Rattle.dp_least_cut.specs.steps.Fits.{IsLimit}
use Rattle.dp_least_cut.specs.steps.Best.{AreLimits}
use Rattle.dp_least_cut.proofs.Optimum.{least_of_best}
use Rattle.dp_least_cut.proofs.places.cut_units.Goals as goal

pub returns : goal.returns
returns c =
    let ws : List ℕ = c.args.weights.now in
    let carried : List (ℕ × ℕ) = c.args.carried.now in
    let items : List ℕ = c.in_ok-limits.limits.items in
    let at_items : AreLimits carried items =
    subst (λ (n : ℕ). (begin : ℕ) → begin < n → IsLimit carried n begin (slice_index items begin)) (sym c.in_ok-limits.ensures.length)
    c.in_ok-limits.ensures.limits in
    let right : AreLimits carried c.as_slice.result.now = subst (λ (x : List ℕ). AreLimits carried x) (sym c.as_slice.ensures.value) at_items in
    subst (λ (k : ℕ). IsLeastCut ws carried c.args.stages k c.in_ok-cut.cut) c.from.ensures
    (least_of_best ws carried c.args.stages c.from.result c.in_ok-bound.bound c.in_ok-cut.cut (c.in_ok-cut.ensures carried right)
    (c.in_ok-bound.ensures.least carried right))
