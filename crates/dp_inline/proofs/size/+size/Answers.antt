use Rattle.std.proofs.Common.{◌≡◌, ◌+◌, ◌<◌, drop, ◌∷◌, length, sym, ap, ◌∙◌, arith}
use Rattle.std.proofs.lemmas.List.{at_drop_more, at_drop_all}
use Rattle.dp_inline.specs.steps.Counted.{counted_one, counted_list}
use Rattle.dp_inline.proofs.SizeForms.{size-none, size-more}
use Rattle.dp_inline.proofs.size.+size.Goals as goal

pub size_of_all-loop-s-preserved : goal.size_of_all-loop-s-preserved
size_of_all-loop-s-preserved t c =
    let each = c.args.each in let sizes = c.args.sizes.now in let all = c.args.all.now in let i = c.loop-s.s-index in
    let below : c.loop-s.s-index < length c.args.all.now = omega arith in
    let e : counted_list each sizes (drop i all) ≡ counted_one each sizes c.s-item.result + counted_list each sizes (drop (i + 1) all) =
    at_drop_more (counted_list each sizes) all i c.s-item.result below ∙ ap (λ y. counted_list each sizes (y ∷ drop (i + 1) all)) (sym c.s-item.is)
    ∙ size-more each sizes c.s-item.result (drop (i + 1) all) in
    (omega (arith, c.counted_sum-size.ensures), omega (arith, e, c.counted_sum-size.ensures, c.size_of.ensures.value, c.loop-s.invariant.1))

pub size_of_all-returns-clause-value : goal.size_of_all-returns-clause-value
size_of_all-returns-clause-value t c =
    let each = c.args.each in let sizes = c.args.sizes.now in
    let e = at_drop_all (counted_list each sizes) c.args.all.now c.loop-s.s-index (omega arith) ∙ size-none each sizes in
    omega (arith, e, c.loop-s.invariant.0, c.loop-s.invariant.1)
