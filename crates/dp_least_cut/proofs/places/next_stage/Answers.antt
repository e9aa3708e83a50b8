use Rattle.std.proofs.Common.{◌≤◌, ℕ, subst, inl, inr, arith}
use Rattle.std.proofs.lemmas.Bool.{cases_eq}
use Rattle.dp_least_cut.specs.steps.Fits.{Fits}
use Rattle.dp_least_cut.specs.steps.Best.{MayStand}
use Rattle.dp_least_cut.proofs.Beginnings.{next_begins, one_begins}
use Rattle.dp_least_cut.proofs.places.next_stage.Goals as goal

pub returns-in-Some-first_kind : goal.returns-in-Some-first_kind
returns-in-Some-first_kind c carried right fits =
    let few : c.args.left ≤ 8 = omega arith in
    next_begins c.args.costs.weights.now c.args.costs.limits.now c.args.costs.workers c.args.bound c.requires.costs carried right
    c.args.left c.args.closed c.args.begin c.loop-end.end few (c.loop-end.invariant carried right) c.in_default.ensures.none c.in-Some-first_kind.replicated
    (omega arith) (omega arith)
    c.in-Some-first_kind.ensures.stands c.in-Some-first_kind.ensures.least (c.in-Some-first_kind.ensures.rest carried right)

pub loop-end-preserved : goal.loop-end-preserved
loop-end-preserved c carried right e r below stand fits = elim (cases_eq e c.loop-end.end) [
  | inl here ↦ c.in_default-first_kind.ensures.none carried right r
      (subst (λ (x : ℕ). MayStand c.args.costs.weights.now carried c.args.costs.workers c.args.bound c.args.closed c.args.begin x r) here stand)
      (subst (λ (x : ℕ). Fits c.args.costs.weights.now carried c.args.costs.workers c.args.bound c.args.left r x) here fits)
  | inr other ↦ c.loop-end.invariant carried right e r (omega (arith, below, other)) stand fits
]

pub returns : goal.returns
returns c carried right fits =
    let few : c.args.left ≤ 8 = omega arith in
    absurd (one_begins c.args.costs.weights.now c.args.costs.limits.now c.args.costs.workers c.args.bound c.requires.costs carried right
    c.args.left c.args.closed c.args.begin c.loop-end.end few (c.loop-end.invariant carried right) c.in_default.ensures.none (omega arith)
    c.requires.begin fits)
