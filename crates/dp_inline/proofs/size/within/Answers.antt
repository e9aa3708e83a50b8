use Rattle.std.proofs.Common.{◌≡◌, sym, ap, ◌∙◌, Ok}
use Rattle.dp_base.specs.Counts.{reported_count}
use Rattle.dp_inline.specs.InlineAnswer.{unless_refused, first_large_region}
use Rattle.dp_inline.specs.steps.Counted.{counted_list, first_large}
use Rattle.dp_inline.proofs.SizeForms.{all_sizes}
use Rattle.dp_inline.proofs.LimitLemmas.{is_large, is_small, limit_of, large_regions, answers}
use Rattle.dp_inline.proofs.size.within.Goals as goal

pub returns-then-count-gt-INLINED_SIZE : goal.returns-then-count-gt-INLINED_SIZE
returns-then-count-gt-INLINED_SIZE c = λ checked. λ _.
    let p = c.args.p.now in
    let count = c.size_of_all-count.ensures.value
    ∙ (λ i. reported_count (counted_list 1 ((c.as_slice.ensures ∙ c.in_ok-counts.ensures) i) (c.as_slice-2.ensures i))) in
    ap (λ o. unless_refused o (unless_refused (first_large_region p p.main) (Ok tt)))
    (is_large p checked c.size_of_all-count.result count c.if-count-gt-INLINED_SIZE.true)

pub returns-in-Some : goal.returns-in-Some
returns-in-Some c = λ checked. λ _.
    let p = c.args.p.now in
    let count = c.size_of_all-count.ensures.value
    ∙ (λ i. reported_count (counted_list 1 ((c.as_slice.ensures ∙ c.in_ok-counts.ensures) i) (c.as_slice-2.ensures i))) in
    let region : first_large c.as_slice-3.result.now c.as_slice-4.result.now ≡ first_large (all_sizes 0 p) p.main =
    (λ i. first_large ((c.as_slice-3.ensures ∙ c.in_ok-counts-2.ensures) i) (c.as_slice-4.ensures i)) in
    answers _ (first_large_region p p.main) (Ok tt) (is_small p checked c.size_of_all-count.result count c.if-count-gt-INLINED_SIZE.false)
    ∙ ap (λ o. unless_refused o (Ok tt)) (large_regions p checked ∙ ap limit_of (sym region ∙ sym c.large_region.ensures ∙ c.in-Some.is))

pub returns : goal.returns
returns c = λ checked.
    let p = c.args.p.now in
    let count = c.size_of_all-count.ensures.value
    ∙ (λ i. reported_count (counted_list 1 ((c.as_slice.ensures ∙ c.in_ok-counts.ensures) i) (c.as_slice-2.ensures i))) in
    let region : first_large c.as_slice-3.result.now c.as_slice-4.result.now ≡ first_large (all_sizes 0 p) p.main =
    (λ i. first_large ((c.as_slice-3.ensures ∙ c.in_ok-counts-2.ensures) i) (c.as_slice-4.ensures i)) in
    answers _ (first_large_region p p.main) (Ok tt) (is_small p checked c.size_of_all-count.result count c.if-count-gt-INLINED_SIZE.false)
    ∙ ap (λ o. unless_refused o (Ok tt)) (large_regions p checked ∙ ap limit_of (sym region ∙ sym c.large_region.ensures ∙ c.in_default.is))
