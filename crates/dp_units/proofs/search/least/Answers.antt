use Rattle.std.proofs.Common.{◌<◌, ◌≤◌, ℕ, List, length, sym, subst, arith}
use Rattle.dp_units.specs.steps.Entries.{Has}
use Rattle.dp_units.proofs.AtLemmas.{at_within}
use Rattle.dp_units.proofs.LoopLemmas.{least_more, least_below}
use Rattle.dp_units.proofs.search.least.Goals as goal

pub loop-node-preserved : goal.loop-node-preserved
loop-node-preserved c =
    let nodes : List ℕ = c.args.nodes.now in
    let i : ℕ = c.loop-node.node-index in
    let h : i < length nodes = omega arith in
    record {
      member = subst (λ k. Has nodes k) (sym c.min-least.ensures) (least_more nodes c.loop-node.least i h c.loop-node.invariant.member);
      least = λ k node before at. subst (λ x. x ≤ node) (sym c.min-least.ensures)
          (least_below nodes c.loop-node.least i h c.loop-node.invariant.least k node before at);
    }

pub returns-clause-least : goal.returns-clause-least
returns-clause-least c = λ i node at. let h = at_within c.args.nodes.now i node at in c.loop-node.invariant.least i node (omega (arith, h)) at
