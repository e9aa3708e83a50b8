use Rattle.std.proofs.Common.{◌≡◌, ◌<◌, ◌+◌, ◌∙◌, sym, ap, subst, arith, ℕ, List, length, drop, replicate, slice_index, slice_index_or}
use Rattle.std.proofs.Math.ListN.{set, length-set}
use Rattle.std.proofs.lemmas.List.{get_or_read}
use Rattle.dp_units.specs.steps.Rows.{waits_for}
use Rattle.dp_units.proofs.BetweenLemmas.{counted_more, target_low, room_for_one}
use Rattle.dp_units.proofs.between.entering.Goals as goal

pub overflow_add-index_mut : goal.overflow_add-index_mut
overflow_add-index_mut c =
    let edges : List (ℕ × ℕ) = c.args.edges.now in
    let i : ℕ = c.loop-edge.edge-index in
    let h : i < length edges = omega arith in
    let room = room_for_one c.args.count edges c.requires c.loop-edge.waits.items i h c.loop-edge.invariant.each c.loop-edge.invariant.counts in
    let low = target_low c.args.count edges c.requires c.loop-edge.waits.items i h c.loop-edge.invariant.each c.loop-edge.invariant.counts in
    let same : c.index_mut.result.now ≡ slice_index c.loop-edge.waits.items (slice_index_or edges i (0, 0)).1 =
    get_or_read _ (slice_index_or edges i (0, 0)).1 c.index_mut.result.now (subst (λ k. (slice_index_or edges i (0, 0)).1 < k) (sym c.loop-edge.invariant.each)
    low) c.index_mut.ensures.value 0 in
    omega (arith, same, room)

pub loop-edge-preserved : goal.loop-edge-preserved
loop-edge-preserved c =
    let n : ℕ = c.args.count in
    let edges : List (ℕ × ℕ) = c.args.edges.now in
    let waits : List ℕ = c.loop-edge.waits.items in
    let i : ℕ = c.loop-edge.edge-index in
    let to : ℕ = (slice_index_or edges i (0, 0)).1 in
    let h : i < length edges = omega arith in
    let before = c.loop-edge.invariant in
    let low = target_low n edges c.requires waits i h before.each before.counts in
    let same : c.index_mut.result.now ≡ slice_index waits to = get_or_read waits to c.index_mut.result.now (subst (λ k. to < k) (sym before.each) low)
    c.index_mut.ensures.value 0 in
    let written : set waits to (c.index_mut.result.now + 1) ≡ set waits to (slice_index waits to + 1) = ap (λ k. set waits to (k + 1)) same in
    record {
      each = length-set waits to (c.index_mut.result.now + 1) ∙ before.each;
      counts = λ v in_v. ap (λ (xs : List ℕ). slice_index xs v + waits_for n (replicate n n) (drop (i + 1) edges) v) written
          ∙ counted_more n edges c.requires waits i h before.each before.counts v in_v;
    }
