use Rattle.std.proofs.Common.{◌≡◌, ℕ, suc, ◌+◌, ◌-◌, List, ◌++◌, length, ap, arith}
use Rattle.std.specs.List.{flat_map}
use Rattle.dp_tree.specs.Numbering.{numbers_from}
use Rattle.dp_plan.proofs.Joins.{joins_more}
use Rattle.dp_explain.specs.ForwardText.{forward_lines, lines_behind}
use Rattle.dp_explain.proofs.forward.put_forwards.Goals as goal

pub loop-place-preserved : goal.loop-place-preserved
loop-place-preserved c =
    let f : ℕ → List ℕ = lines_behind c.args.p.now c.args.plan.now c.args.first c.args.nodes.now c.args.edges.now in
    let at = c.loop-place.place in let count = length c.args.plan.now.stages in
    let left : length c.args.plan.now.stages - c.loop-place.place ≡ suc (length c.args.plan.now.stages - (c.loop-place.place + 1)) = omega
    (arith, c.loop-place-test.true, c.len-place-end.ensures) in
    joins_more (c.args.out.now ++ forward_lines c.args.p.now c.args.plan.now c.args.first c.args.nodes.now c.args.edges.now) c.loop-place.out
    c.put_behind.new.out
    (flat_map f (numbers_from (at + 1) (count - at))) (f (at + 1)) (flat_map f (numbers_from (at + 1 + 1) (count - (at + 1))))
    c.loop-place.invariant (ap (λ (n : ℕ). flat_map f (numbers_from (at + 1) n)) left) c.in_ok-put_behind.ensures
