use Rattle.std.proofs.Common.{◌≡◌, ◌<◌, ◌+◌, ◌++◌, ◌∷◌, [], ℕ, List, length, length-append, subst, sym, ap, ◌∙◌, arith, slice_index}
use Rattle.dp_least_cut.specs.steps.Fits.{IsLimit}
use Rattle.dp_least_cut.proofs.LimitLemmas.{limits_more}
use Rattle.dp_least_cut.proofs.limits.limits.Goals as goal

pub loop-begin-preserved : goal.loop-begin-preserved
loop-begin-preserved c =
    let xs : List ℕ = c.loop-begin.limits.items in
    let new : ℕ = c.limit_from.result in
    let e : c.push.new.self.items ≡ xs ++ new ∷ [] = c.in_ok-push.ensures.items in
    let long : length xs ≡ c.loop-begin.begin = c.loop-begin.invariant.long in
    let last : IsLimit c.args.carried.now c.args.count (length xs) new = subst (λ (x : ℕ). IsLimit c.args.carried.now c.args.count x new) (sym long)
    c.limit_from.ensures in
    let before : (b : ℕ) → b < length xs → IsLimit c.args.carried.now c.args.count b (slice_index xs b) = λ b h. c.loop-begin.invariant.limits b
    (subst (λ (x : ℕ). b < x) long h) in
    record {
      long = ap length e ∙ length-append xs (new ∷ []) ∙ ap (λ n. n + 1) long;
      limits = λ b h. subst (λ (ys : List ℕ). IsLimit c.args.carried.now c.args.count b (slice_index ys b)) (sym e)
          (limits_more c.args.carried.now c.args.count new xs before last b (subst (λ (x : ℕ). b < x + 1) (sym long) h));
    }

pub returns-clause-limits : goal.returns-clause-limits
returns-clause-limits c b h = c.loop-begin.invariant.limits b (omega arith)
