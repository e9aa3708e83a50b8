use Rattle.std.proofs.Common.{◌≡◌, ◌<◌, ◌+◌, ◌∷◌, ◌++◌, drop, length, inl, refl, sym, ap, subst, ◌∙◌, OnErr, OnOk, arith}
use Rattle.dp_tree.specs.declared.SiteKind.TheVariants as kind
use Rattle.dp_check.specs.declared.place.Place.{Place}
use Rattle.dp_check.specs.Place.{Site, IsPastNumbers, place_passed, sited, parts, parts_all}
use Rattle.dp_check.proofs.PlaceLemmas.{passed_more, passed-none, past_by, after-If, after-While, pass-For, pass-For-first, pass-For-site}
use Rattle.dp_check.proofs.numbers.+numbers.Goals as goal
use Rattle.dp_room.proofs.LoopLemmas.{fold_more, fold_end}
use Rattle.dp_room.proofs.ResultLemmas.{on_err}

pub pass_all-loop-s-preserved : goal.pass_all-loop-s-preserved
pass_all-loop-s-preserved t c =
    let below : c.loop-s.s-index < length c.args.all.now = omega arith in
    fold_more (λ p all. place_passed p (parts_all all)) (λ p s. place_passed p (parts s)) passed_more c.args.all.now c.loop-s.s-index c.loop-s.place _
    c.loop-s.invariant c.s-item.result below c.s-item.is c.pass.new.place c.in_ok-pass.ensures.place

pub pass_all-returns-clause-place : goal.pass_all-returns-clause-place
pass_all-returns-clause-place t c =
    sym (fold_end (λ p all. place_passed p (parts_all all)) (λ p s. place_passed p (parts s)) passed_more c.args.all.now c.loop-s.s-index c.loop-s.place _
    c.loop-s.invariant (omega arith) ∙ passed-none c.loop-s.place)

pub pass_all-returns-in_err-pass-clause-full : goal.pass_all-returns-in_err-pass-clause-full
pass_all-returns-in_err-pass-clause-full t c =
    let below : c.loop-s.s-index < length c.args.all.now = omega arith in
    let p = c.loop-s.place in let s = c.s-item.result in let rest = drop (c.loop-s.s-index + 1) c.args.all.now in
    let whole = fold_more (λ q all. place_passed q (parts_all all)) (λ q x. place_passed q (parts x)) passed_more c.args.all.now c.loop-s.s-index p _
    c.loop-s.invariant s below c.s-item.is (place_passed p (parts s)) refl in
    on_err c.from_residual.result _ (past_by (place_passed p (parts s)) _ (parts_all rest) whole c.in_err-pass.ensures.full)

pub pass-returns-in_err-pass_all-in-If-clause-full : goal.pass-returns-in_err-pass_all-in-If-clause-full
pass-returns-in_err-pass_all-in-If-clause-full t c =
    let f = c.in-If in let p = c.args.place.now in
    on_err c.from_residual-in_err-pass_all-in-If.result _
    (past_by (place_passed (sited p) (parts_all f.then_part)) _ (parts_all f.else_part) (ap (λ s. place_passed p (parts s)) f.is
    ∙ after-If p f.line f.cond f.then_part f.else_part)
    (subst IsPastNumbers (λ i. place_passed (c.in_ok-take_site-in-If.ensures.place i) (parts_all (c.as_slice.ensures i))) c.in_err-pass_all-in-If.ensures.full))

pub pass-returns-in_err-pass_all-in-For-clause-full : goal.pass-returns-in_err-pass_all-in-For-clause-full
pass-returns-in_err-pass_all-in-For-clause-full t c =
    let f = c.in-For in let p = c.args.place.now in
    on_err c.from_residual-in_err-pass_all-in-For.result _
    (past_by (place_passed p (parts_all f.first)) _ (Site f.line kind.While ∷ (parts_all f.body ++ parts_all f.step)) (ap (λ s. place_passed p (parts s)) f.is
    ∙ pass-For-first p f.line f.marked f.first f.cond f.step f.body)
    (subst IsPastNumbers (λ i. place_passed p (parts_all (c.as_slice-in-For.ensures i))) c.in_err-pass_all-in-For.ensures.full))

pub pass-returns-in_err-take_site-in-For-clause-full : goal.pass-returns-in_err-take_site-in-For-clause-full
pass-returns-in_err-take_site-in-For-clause-full t c =
    let f = c.in-For in let p = c.args.place.now in
    let first_end = c.in_ok-pass_all-in-For.ensures.place ∙ (λ i. place_passed p (parts_all (c.as_slice-in-For.ensures i))) in
    on_err c.from_residual-in_err-take_site-in-For.result _
    (past_by (sited (place_passed p (parts_all f.first))) _ (parts_all f.body ++ parts_all f.step) (ap (λ s. place_passed p (parts s)) f.is
    ∙ pass-For-site p f.line f.marked f.first f.cond f.step f.body)
    (subst (λ (q : Place). IsPastNumbers (sited q)) first_end (inl c.in_err-take_site-in-For.ensures.full)))

pub pass-returns-in_err-pass_all-in-For-2-clause-full : goal.pass-returns-in_err-pass_all-in-For-2-clause-full
pass-returns-in_err-pass_all-in-For-2-clause-full t c =
    let f = c.in-For in let p = c.args.place.now in
    let first_end = c.in_ok-pass_all-in-For.ensures.place ∙ (λ i. place_passed p (parts_all (c.as_slice-in-For.ensures i))) in
    let behind = c.in_ok-take_site-in-For.ensures.place ∙ (λ i. sited (first_end i)) in
    on_err c.from_residual-in_err-pass_all-in-For-2.result _
    (past_by (place_passed (sited (place_passed p (parts_all f.first))) (parts_all f.body)) _ (parts_all f.step) (ap (λ s. place_passed p (parts s)) f.is
    ∙ pass-For p f.line f.marked f.first f.cond f.step f.body)
    (subst IsPastNumbers (λ i. place_passed (behind i) (parts_all (c.as_slice-in-For-2.ensures i))) c.in_err-pass_all-in-For-2.ensures.full))

pub pass-returns-in_ok-pass_all-in-If-clause-place : goal.pass-returns-in_ok-pass_all-in-If-clause-place
pass-returns-in_ok-pass_all-in-If-clause-place t c =
    let f = c.in-If in let p = c.args.place.now in
    let then_end = c.in_ok-pass_all-in-If.ensures.place ∙ (λ i. place_passed (c.in_ok-take_site-in-If.ensures.place i) (parts_all (c.as_slice.ensures i))) in
    subst (λ (q : Place). OnOk c.pass_all-in-If.result (c.pass_all-in-If.new.place ≡ q))
    ((λ i. place_passed (then_end i) (parts_all (c.as_slice-in-If.ensures i))) ∙ sym (ap (λ s. place_passed p (parts s)) f.is
    ∙ after-If p f.line f.cond f.then_part f.else_part))
    c.pass_all-in-If.ensures.place

pub pass-returns-in_ok-pass_all-in-If-clause-full : goal.pass-returns-in_ok-pass_all-in-If-clause-full
pass-returns-in_ok-pass_all-in-If-clause-full t c =
    let f = c.in-If in let p = c.args.place.now in
    let then_end = c.in_ok-pass_all-in-If.ensures.place ∙ (λ i. place_passed (c.in_ok-take_site-in-If.ensures.place i) (parts_all (c.as_slice.ensures i))) in
    subst (λ (q : Place). OnErr c.pass_all-in-If.result (IsPastNumbers q))
    ((λ i. place_passed (then_end i) (parts_all (c.as_slice-in-If.ensures i))) ∙ sym (ap (λ s. place_passed p (parts s)) f.is
    ∙ after-If p f.line f.cond f.then_part f.else_part))
    c.pass_all-in-If.ensures.full

pub pass-returns-in_ok-take_site-in-While-clause-place : goal.pass-returns-in_ok-take_site-in-While-clause-place
pass-returns-in_ok-take_site-in-While-clause-place t c =
    let f = c.in-While in let p = c.args.place.now in
    subst (λ (q : Place). OnOk c.pass_all-in-While.result (c.pass_all-in-While.new.place ≡ q))
    ((λ i. place_passed (c.in_ok-take_site-in-While.ensures.place i) (parts_all (c.as_slice-in-While.ensures i))) ∙ sym (ap (λ s. place_passed p (parts s)) f.is
    ∙ after-While p f.line f.marked f.cond f.body))
    c.pass_all-in-While.ensures.place

pub pass-returns-in_ok-take_site-in-While-clause-full : goal.pass-returns-in_ok-take_site-in-While-clause-full
pass-returns-in_ok-take_site-in-While-clause-full t c =
    let f = c.in-While in let p = c.args.place.now in
    subst (λ (q : Place). OnErr c.pass_all-in-While.result (IsPastNumbers q))
    ((λ i. place_passed (c.in_ok-take_site-in-While.ensures.place i) (parts_all (c.as_slice-in-While.ensures i))) ∙ sym (ap (λ s. place_passed p (parts s)) f.is
    ∙ after-While p f.line f.marked f.cond f.body))
    c.pass_all-in-While.ensures.full

pub pass-returns-in_ok-pass_all-in-For-2-clause-place : goal.pass-returns-in_ok-pass_all-in-For-2-clause-place
pass-returns-in_ok-pass_all-in-For-2-clause-place t c =
    let f = c.in-For in let p = c.args.place.now in
    let first_end = c.in_ok-pass_all-in-For.ensures.place ∙ (λ i. place_passed p (parts_all (c.as_slice-in-For.ensures i))) in
    let behind = c.in_ok-take_site-in-For.ensures.place ∙ (λ i. sited (first_end i)) in
    let body_end = c.in_ok-pass_all-in-For-2.ensures.place ∙ (λ i. place_passed (behind i) (parts_all (c.as_slice-in-For-2.ensures i))) in
    subst (λ (q : Place). OnOk c.pass_all-in-For-3.result (c.pass_all-in-For-3.new.place ≡ q))
    ((λ i. place_passed (body_end i) (parts_all (c.as_slice-in-For-3.ensures i))) ∙ sym (ap (λ s. place_passed p (parts s)) f.is
    ∙ pass-For p f.line f.marked f.first f.cond f.step f.body))
    c.pass_all-in-For-3.ensures.place

pub pass-returns-in_ok-pass_all-in-For-2-clause-full : goal.pass-returns-in_ok-pass_all-in-For-2-clause-full
pass-returns-in_ok-pass_all-in-For-2-clause-full t c =
    let f = c.in-For in let p = c.args.place.now in
    let first_end = c.in_ok-pass_all-in-For.ensures.place ∙ (λ i. place_passed p (parts_all (c.as_slice-in-For.ensures i))) in
    let behind = c.in_ok-take_site-in-For.ensures.place ∙ (λ i. sited (first_end i)) in
    let body_end = c.in_ok-pass_all-in-For-2.ensures.place ∙ (λ i. place_passed (behind i) (parts_all (c.as_slice-in-For-2.ensures i))) in
    subst (λ (q : Place). OnErr c.pass_all-in-For-3.result (IsPastNumbers q))
    ((λ i. place_passed (body_end i) (parts_all (c.as_slice-in-For-3.ensures i))) ∙ sym (ap (λ s. place_passed p (parts s)) f.is
    ∙ pass-For p f.line f.marked f.first f.cond f.step f.body))
    c.pass_all-in-For-3.ensures.full
