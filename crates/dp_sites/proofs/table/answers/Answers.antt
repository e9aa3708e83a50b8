use Rattle.std.proofs.Common.{◌≡◌, ◌+◌, ◌-◌, ◌<◌, ◌∷◌, [], ◌++◌, map, length, List, Bool, ap, ◌∙◌, arith}
use Rattle.std.specs.Option.{option_copied}
use Rattle.dp_tree.specs.Numbering.{numbers_from}
use Rattle.dp_sites.specs.declared.moving.Storing.{Storing}
use Rattle.dp_sites.specs.declared.part.Part.{Part}
use Rattle.dp_sites.specs.Storings.{answer_at, checked_or, storings}
use Rattle.dp_plan.proofs.TableLemmas.{table-next}
use Rattle.dp_sites.proofs.table.answers.Goals as goal

pub loop-place-preserved : goal.loop-place-preserved
loop-place-preserved c =
    let p = c.args.p.now in let plan = c.args.plan.now in let parts = c.args.parts.now in let body = c.args.body.now in
    let f = answer_at c.args.p.now c.args.plan.now c.args.parts.now c.args.body.now in
    let n = length c.args.plan.now.stage_of in let place = c.loop-place.place in
    let many = c.len-place-end.ensures in
    let here = c.loop-place-test.true in
    let below : c.loop-place.place < length c.args.plan.now.stage_of = omega (arith, here, many) in
    let from : c.loop-place.place ≡ 0 + c.loop-place.place = omega arith in
    let stores_are = c.as_slice-in-loop-place.ensures ∙ c.in_ok-stores.ensures
    ∙ ap (λ (ps : List Part). storings c.args.p.now c.args.plan.now ps c.args.body.now) c.as_slice.ensures in
    let answer_is : c.answer.result ≡ answer_at c.args.p.now c.args.plan.now c.args.parts.now c.args.body.now c.loop-place.place =
    c.answer.ensures ∙ ap (λ (st : List Storing). checked_or c.args.p.now c.args.plan.now st (option_copied c.get.result)) stores_are
    ∙ ap (checked_or c.args.p.now c.args.plan.now (storings c.args.p.now c.args.plan.now c.args.parts.now c.args.body.now)) c.get.ensures.value in
    ap (λ (out : List Bool). out ++ map (answer_at c.args.p.now c.args.plan.now c.args.parts.now c.args.body.now)
    (numbers_from (0 + (c.loop-place.place + 1)) (length c.args.plan.now.stage_of - (c.loop-place.place + 1)))) (c.in_ok-push.ensures.ok
    ∙ ap (λ (b : Bool). c.loop-place.found ++ b ∷ []) answer_is)
    ∙ table-next (answer_at c.args.p.now c.args.plan.now c.args.parts.now c.args.body.now) c.loop-place.found _ 0 place n c.loop-place.place below from
    c.loop-place.invariant
