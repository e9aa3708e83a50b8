use Rattle.std.proofs.Common.{◌∙◌, ℕ, ◌≤◌, ◌≢◌, ◌+◌, arith}
use Rattle.std.proofs.lemmas.Bool.{false_from_ne_true}
use Rattle.dp_audit.proofs.CopyLemmas.{listed_all, listing_next, noted_cells, noted_sets, others_left, same_but, same_values, within}
use Rattle.dp_audit.proofs.known.Known.changes.Goals as goal

pub loop-cell-preserved : goal.loop-cell-preserved
loop-cell-preserved c =
    let i = c.loop-cell.invariant in
    let n = c.in_ok-note.ensures in
    let cells = noted_cells c.args.now.now c.loop-cell.cell _ _ i.locals c.loop-cell.self.cells c.note.new.self.cells n.cells in
    let sets = noted_sets c.args.now.now c.loop-cell.cell _ _ i.locals c.loop-cell.self.cells c.loop-cell.sets c.note.new.sets n.sets in
    record {
      locals = n.locals ∙ i.locals;
      listing = listing_next _ _ _ _ _ i.listing c.loop-cell.cell i.ahead _ _ cells sets;
      ahead = λ cell h.
          let left = others_left _ _ _ _ _ i.listing c.loop-cell.cell i.ahead _ _ cells sets cell h in
          let low = i.ahead cell left.1 in
          let apart : cell ≢ c.loop-cell.cell = left.0 in
          above _ _ low apart;
    }
  where
    above : (low cell : ℕ) → low ≤ cell → cell ≢ low → low + 1 ≤ cell
    above low cell h apart = omega (arith, h, apart)

pub returns-clause-sets : goal.returns-clause-sets
returns-clause-sets c = listed_all _ _ _ _ _ c.loop-cell.invariant.listing (λ cell. false_from_ne_true _ (λ t.
    let low = c.loop-cell.invariant.ahead cell t in
    let high = within _ _ _ c.loop-cell.invariant.listing.size cell t in
    let all = c.in_ok-count.ensures.count in
    omega (arith, low, high, all)))

pub returns-clause-copy : goal.returns-clause-copy
returns-clause-copy c = record {
  size = c.loop-cell.invariant.listing.size;
  same = same_but _ _ c.loop-cell.invariant.locals (same_values _ _ _ _ _ c.loop-cell.invariant.listing (λ cell. false_from_ne_true _ (λ t.
      let low = c.loop-cell.invariant.ahead cell t in
      let high = within _ _ _ c.loop-cell.invariant.listing.size cell t in
      let all = c.in_ok-count.ensures.count in
      omega (arith, low, high, all))));
}
