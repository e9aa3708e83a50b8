use Rattle.std.proofs.Common.{◌≡◌, ◌+◌, ◌<◌, ap, ◌∙◌, arith, length, ℕ, map}
use Rattle.dp_tree.specs.Numbering.{numbers_from}
use Rattle.dp_semantics.specs.Judge.{last}
use Rattle.dp_lean_code.specs.steps.Needs.{accesses_in, done_among}
use Rattle.dp_lean_code.proofs.NeedLists.{number_next}
use Rattle.dp_lean_code.proofs.needs.Needs.done.Goals as goal

pub loop-place-preserved : goal.loop-place-preserved
loop-place-preserved c =
    let p = c.args.self.program.now in let plan = c.args.self.plan.now in let all = accesses_in c.args.self.accesses.now in
    let many = c.in_ok-last.ensures.value in let here = c.loop-place-test.true in
    let below : c.loop-place.place < last c.args.self.plan.now = omega (arith, here, many) in
    let from : c.loop-place.place + 1 ≡ 1 + c.loop-place.place = omega arith in
    number_next (λ (s : ℕ). map (done_among p plan all s) (numbers_from 0 (length p.vars))) c.loop-place.rows _ _ _ 1 c.loop-place.place (last plan) below
    (c.in_ok-row.ensures ∙ ap (λ (s : ℕ). map (done_among p plan all s) (numbers_from 0 (length p.vars))) from) c.in_ok-push.ensures.ok c.loop-place.invariant
