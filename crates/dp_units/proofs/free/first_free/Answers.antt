use Rattle.std.proofs.Common.{◌+◌, sym, subst, arith, ℕ}
use Rattle.std.specs.BTreeSet.{BTreeSet}
use Rattle.dp_units.proofs.FreeLemmas.{AreFree, free_offered, free_passed}
use Rattle.dp_units.proofs.free.first_free.Goals.{then-leader_of-node+in_ok-offer, else-leader_of-node}
use Rattle.dp_units.proofs.free.first_free.Goals as goal

pub loop-node-preserved : goal.loop-node-preserved
loop-node-preserved c = elim c.if-leader_of-node.branch [
  | then-leader_of-node+in_ok-offer w ↦
      let more = free_offered c.args.leader_of.now c.args.waits.now c.loop-node.free.keys w.offer.new.free.keys c.loop-node.node c.loop-node.invariant
      w.if-leader_of-node.true
      w.in_ok-offer.ensures.from w.in_ok-offer.ensures.kept w.in_ok-offer.ensures.added in
      subst (λ (s : BTreeSet ℕ). AreFree c.args.leader_of.now c.args.waits.now s.keys (c.loop-node.node + 1)) (sym w.free-is) more
  | else-leader_of-node w ↦
      let more = free_passed c.args.leader_of.now c.args.waits.now c.loop-node.free.keys c.loop-node.node c.loop-node.invariant w.if-leader_of-node.false in
      subst (λ (s : BTreeSet ℕ). AreFree c.args.leader_of.now c.args.waits.now s.keys (c.loop-node.node + 1)) (sym w.free-is) more
]

pub returns-clause-leader : goal.returns-clause-leader
returns-clause-leader c = λ node has. let (low, leader, none) = c.loop-node.invariant.leader node has in (omega (arith, low), leader, none)
