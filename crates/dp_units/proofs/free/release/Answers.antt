use Rattle.std.proofs.Common.{◌<◌, ◌-◌, ◌∙◌, refl, sym, subst, arith, ℕ, List, length, slice_index_or}
use Rattle.std.proofs.Math.ListN.{length-set}
use Rattle.dp_units.proofs.LoopLemmas.{item_at}
use Rattle.dp_units.proofs.FreeLemmas.{one_left, less_more, from_more, added_more}
use Rattle.dp_units.proofs.free.release.Goals as goal

pub overflow_sub-waits : goal.overflow_sub-waits
overflow_sub-waits c =
    let row : List ℕ = c.args.row.now in
    let i : ℕ = c.loop-node.node-index in
    let h : i < length row = omega arith in
    let low : slice_index_or row i 0 < length c.args.waits.now = c.requires.within i (slice_index_or row i 0) (item_at row i 0 h) in
    one_left c.args.waits.now c.loop-node.waits row i (slice_index_or row i 0) h refl low c.loop-node.auto.waits c.requires.enough c.loop-node.invariant.less

pub bounds-waits-node-in-loop-node : goal.bounds-waits-node-in-loop-node
bounds-waits-node-in-loop-node c =
    let row : List ℕ = c.args.row.now in
    let i : ℕ = c.loop-node.node-index in
    let h : i < length row = omega arith in
    let low : slice_index_or row i 0 < length c.args.waits.now = c.requires.within i (slice_index_or row i 0) (item_at row i 0 h) in
    subst (λ k. slice_index_or row i 0 < k) (sym c.loop-node.auto.waits) low

pub bounds-waits-node-in-loop-node-2 : goal.bounds-waits-node-in-loop-node-2
bounds-waits-node-in-loop-node-2 c =
    let row : List ℕ = c.args.row.now in
    let i : ℕ = c.loop-node.node-index in
    let node : ℕ = slice_index_or row i 0 in
    let h : i < length row = omega arith in
    let low : node < length c.args.waits.now = c.requires.within i node (item_at row i 0 h) in
    subst (λ k. node < k) (sym (length-set c.loop-node.waits node (slice_index_or c.loop-node.waits node 0 - 1) ∙ c.loop-node.auto.waits)) low

pub loop-node-preserved : goal.loop-node-preserved
loop-node-preserved c =
    let row : List ℕ = c.args.row.now in
    let initial : List ℕ = c.args.waits.now in
    let i : ℕ = c.loop-node.node-index in
    let node : ℕ = slice_index_or row i 0 in
    let h : i < length row = omega arith in
    let low : node < length initial = c.requires.within i node (item_at row i 0 h) in
    let before = c.loop-node.invariant in
    let offer = c.in_ok-offer.ensures in
    record {
      less = less_more initial c.loop-node.waits row i node h refl low c.loop-node.auto.waits c.requires.enough before.less;
      from = from_more initial _ row i node h refl low c.loop-node.auto.waits c.requires.enough before.less c.args.free.now.keys c.loop-node.free.keys
          c.offer.new.free.keys before.from before.added offer.from offer.kept offer.added;
      kept = λ y has. offer.kept y (before.kept y has);
      added = added_more initial _ row i node h refl low c.loop-node.auto.waits c.requires.enough before.less c.args.free.now.keys c.loop-node.free.keys
          c.offer.new.free.keys before.from before.added offer.from offer.kept offer.added;
    }
