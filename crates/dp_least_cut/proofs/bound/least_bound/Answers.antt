use Rattle.std.proofs.Common.{◌≡◌, ◌<◌, ◌≤◌, ◌+◌, ◌-◌, ◌/◌, ℕ, List, true, length, subst, sym, ◌∙◌, arith, slice_index}
use Rattle.dp_least_cut.specs.steps.Fits.{Fits}
use Rattle.dp_least_cut.proofs.Weights.{weight_low}
use Rattle.dp_least_cut.proofs.Beginnings.{all_fit, fits_more}
use Rattle.dp_least_cut.proofs.bound.least_bound.Goals as goal
use Rattle.dp_least_cut.proofs.bound.least_bound.Goals.{then-index-stages, else-index-stages}
use Rattle.std.proofs.lemmas.List.{get_or_default}

pub loop-low-init : goal.loop-low-init
loop-low-init c =
    let low = weight_low c.args.costs.weights.now 0 (length c.args.costs.weights.now) in
    let total = c.total-high.ensures in
    record {
      order = omega arith;
      small = omega (arith, total);
      keeps = λ carried right. all_fit c.args.costs.weights.now carried c.args.costs.workers c.total-high.result c.args.stages
          (omega (arith, low, total)) c.requires.some;
      least = λ carried right lower h fits. absurd (omega (arith, h));
    }

pub loop-low-preserved : goal.loop-low-preserved
loop-low-preserved c =
    let ws : List ℕ = c.args.costs.weights.now in
    let k : ℕ = c.args.costs.workers in
    let middle : ℕ = c.loop-low.low + (c.loop-low.high - c.loop-low.low) / 2 in
    let needs : List ℕ = c.in_ok-needs.needs.after_par.items in
    let long : 0 < length needs = (let l = c.in_ok-needs.ensures.length.1 in omega (arith, l)) in
    let need : c.index.result.now ≡ slice_index needs 0 = c.index.ensures ∙ get_or_default needs 0 c.index.result.now 0 long in
    let few : c.args.stages ≤ 8 = omega arith in
    elim c.if-index-stages.branch [
      | then-index-stages w ↦
          let low_is : c.if-index-stages.low ≡ c.loop-low.low = w.low-is in
          let high_is : c.if-index-stages.high ≡ middle = w.high-is in
          record {
            order = omega (arith, low_is, high_is);
            small = (let s = c.loop-low.invariant.small in omega (arith, high_is, s));
            keeps = λ carried right. subst (λ (x : ℕ). Fits ws carried k x c.args.stages true 0) (sym high_is)
                ((c.in_ok-needs.ensures.par carried right 0 c.args.stages (omega arith) (omega arith) few).0
                (subst (λ (x : ℕ). x ≤ c.args.stages) need w.if-index-stages.true));
            least = λ carried right lower h fits. c.loop-low.invariant.least carried right lower (omega (arith, h, low_is)) fits;
          }
      | else-index-stages w ↦
          let low_is : c.if-index-stages.low ≡ middle + 1 = w.low-is in
          let high_is : c.if-index-stages.high ≡ c.loop-low.high = w.high-is in
          record {
            order = omega (arith, low_is, high_is);
            small = (let s = c.loop-low.invariant.small in omega (arith, high_is, s));
            keeps = λ carried right. subst (λ (x : ℕ). Fits ws carried k x c.args.stages true 0) (sym high_is) (c.loop-low.invariant.keeps carried right);
            least = λ carried right lower h fits.
                let at : Fits ws carried k middle c.args.stages true 0 = fits_more ws carried k lower middle c.args.stages c.args.stages true 0
                (omega (arith, h, low_is)) (omega arith) fits in
                let enough : slice_index needs 0 ≤ c.args.stages = (c.in_ok-needs.ensures.par carried right 0 c.args.stages (omega arith)
                (omega arith) few).1 at in
                let many : c.args.stages < c.index.result.now = w.if-index-stages.false in
                omega (arith, enough, many, need);
          }
    ]

pub returns-clause-least : goal.returns-clause-least
returns-clause-least c carried right lower h fits = c.loop-low.invariant.least carried right lower (omega (arith, h)) fits
