use Rattle.std.proofs.Common.{◌≡◌, ◌↔◌, ◌≤◌, ◌+◌, ℕ, List, length, subst, sym, ap, ◌∙◌, inl, inr, arith, slice_index}
use Rattle.dp_least_cut.specs.Allowed.{weight_between}
use Rattle.dp_least_cut.specs.steps.Fits.{StageFits}
use Rattle.dp_least_cut.specs.steps.Best.{HasFirst}
use Rattle.dp_least_cut.proofs.Weights.{weight_more, weight_low}
use Rattle.dp_least_cut.proofs.FirstLemmas.{first_more, first_less}
use Rattle.dp_least_cut.proofs.needs.need_from.Goals as goal

pub overflow_add-weight : goal.overflow_add-weight
overflow_add-weight c =
    let e = weight_more c.args.costs.weights.now c.args.begin c.loop-last.last (omega arith) (omega arith) in
    let low = weight_low c.args.costs.weights.now c.args.begin (c.loop-last.last + 1) in
    omega (arith, e, low, c.requires.costs.total)

pub lesser_need-least-requires-clause-weight : goal.lesser_need-least-requires-clause-weight
lesser_need-least-requires-clause-weight c =
    let e = weight_more c.args.costs.weights.now c.args.begin c.loop-last.last (omega arith) (omega arith) in
    let low = weight_low c.args.costs.weights.now c.args.begin (c.loop-last.last + 1) in
    omega (arith, e, low, c.requires.costs.total)

pub loop-last-preserved : goal.loop-last-preserved
loop-last-preserved c =
    let ws : List ℕ = c.args.costs.weights.now in
    let last : ℕ = c.loop-last.last in
    let some : c.args.begin ≤ last = omega arith in
    let w : c.loop-last.weight + slice_index ws last ≡ weight_between ws c.args.begin (last + 1) =
    ap (λ x. x + slice_index ws last) c.loop-last.invariant.weight ∙ sym (weight_more ws c.args.begin last some (omega arith)) in
    record {
      weight = w;
      need = λ most h. (
        λ e. first_more ws c.args.costs.limits.now c.args.costs.workers c.args.bound c.args.after_seq.now c.args.after_par.now c.args.closed c.args.begin last
            some c.may_end-may.result c.may_end-may.ensures most
            (elim ((c.lesser_need-least.ensures.need most h).0 e) [
              | inl was ↦ inl ((c.loop-last.invariant.need most h).0 was)
              | inr new ↦ inr (
                new.0,
                subst (λ (x : ℕ). StageFits c.args.costs.workers c.args.bound c.may_end-may.result x
                    (slice_index c.args.after_seq.now (last + 1)) (slice_index c.args.after_par.now (last + 1)) most new.0) w new.1,
              )
            ]),
        λ has. (c.lesser_need-least.ensures.need most h).1
            (elim (first_less ws c.args.costs.limits.now c.args.costs.workers c.args.bound c.args.after_seq.now c.args.after_par.now c.args.closed c.args.begin
            last some c.may_end-may.result c.may_end-may.ensures most has) [
              | inl was ↦ inl ((c.loop-last.invariant.need most h).1 was)
              | inr new ↦ inr (
                new.0,
                subst (λ (x : ℕ). StageFits c.args.costs.workers c.args.bound c.may_end-may.result x
                    (slice_index c.args.after_seq.now (last + 1)) (slice_index c.args.after_par.now (last + 1)) most new.0) (sym w) new.1,
              )
            ]),
      );
    }

pub returns : goal.returns
returns c =
    let at : c.loop-last.last ≡ length c.args.costs.weights.now = omega arith in
    subst (λ (x : ℕ). (most : ℕ) → most ≤ 8 → (c.loop-last.least ≤ most) ↔ HasFirst c.args.costs.weights.now c.args.costs.limits.now c.args.costs.workers
    c.args.bound c.args.after_seq.now c.args.after_par.now c.args.closed c.args.begin x most) at c.loop-last.invariant.need
