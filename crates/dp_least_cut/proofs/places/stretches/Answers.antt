use Rattle.std.proofs.Common.{◌≡◌, ◌+◌, ◌-◌, ◌++◌, ◌∷◌, [], ℕ, List, subst, sym, ap, ◌∙◌, arith, append_assoc, append-nil, true}
use Rattle.dp_least_cut.specs.declared.Stretch.{Stretch}
use Rattle.dp_least_cut.specs.steps.Fits.{Fits}
use Rattle.dp_least_cut.specs.steps.Best.{AreLimits, Best, IsBeginning}
use Rattle.dp_least_cut.proofs.Beginnings.{ends_none}
use Rattle.dp_least_cut.proofs.places.stretches.Goals as goal
use Rattle.dp_least_cut.proofs.places.stretches.Goals.{then-loop-begin-test+else-left-gt0, else-loop-begin-test}

pub loop-begin-preserved : goal.loop-begin-preserved
loop-begin-preserved c =
    let ws : List ℕ = c.args.costs.weights.now in
    let left : ℕ = c.loop-begin.left - 1 in
    let one : c.loop-begin.left ≡ left + 1 = omega arith in
    let s : Stretch = c.next_stage-stage.result in
    let begins : (carried : List (ℕ × ℕ)) → AreLimits carried c.args.costs.limits.now → IsBeginning ws carried c.args.costs.workers c.args.bound left
    c.loop-begin.closed c.loop-begin.begin s =
    λ carried right. c.next_stage-stage.ensures carried right
    (subst (λ (x : ℕ). Fits ws carried c.args.costs.workers c.args.bound x c.loop-begin.closed c.loop-begin.begin) one
    (c.loop-begin.invariant.fits carried right)) in
    let pushed = c.in_ok-push.ensures.ok in
    record {
      few = omega arith;
      fits = λ carried right. (begins carried right).rest;
      best = λ carried right rest b.
          let whole = c.loop-begin.invariant.best carried right (s ∷ rest)
          (subst (λ (x : ℕ). Best ws carried c.args.costs.workers c.args.bound x c.loop-begin.closed c.loop-begin.begin (s ∷ rest)) (sym one)
          ((begins carried right).best rest b)) in
          subst (λ (x : List Stretch). Best ws carried c.args.costs.workers c.args.bound c.args.stages true 0 x)
          (sym (ap (λ (y : List Stretch). y ++ rest) pushed ∙ append_assoc c.loop-begin.cut (s ∷ []) rest)) whole;
    }

pub returns : goal.returns
returns c carried right =
    let fits = c.loop-begin.invariant.fits carried right in
    let ended = ends_none c.args.costs.weights.now carried c.args.costs.workers c.args.bound c.loop-begin.left c.loop-begin.closed c.loop-begin.begin fits
    (λ h. elim c.loop-begin-test.branch [
      | then-loop-begin-test+else-left-gt0 w ↦ (let f = w.if-left-gt0.false in omega (arith, f))
      | else-loop-begin-test w ↦
          (let f = w.loop-begin-test.false in absurd (omega (arith, f, h)))
    ]) in
    subst (λ (x : List Stretch). Best c.args.costs.weights.now carried c.args.costs.workers c.args.bound c.args.stages true 0 x) (append-nil c.loop-begin.cut)
    (c.loop-begin.invariant.best carried right [] ended)
