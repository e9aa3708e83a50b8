use Rattle.std.proofs.Common.{◌≡◌, ◌∙◌, ◌<◌, refl, sym, ap, subst, ℕ, length, get_or, drop, true, [], arith}
use Rattle.std.specs.List.Sorted.{IsNonDecreasing}
use Rattle.std.proofs.lemmas.Bool.{false_from_ne_true}
use Rattle.std.proofs.lemmas.List.{drop_all}
use Rattle.dp_plan.specs.Written.{has}
use Rattle.dp_audit.specs.Copy.{changed_but}
use Rattle.dp_audit.proofs.CopyLemmas.{behind_there, has_moved, has_none, least_there, listed_all, listing_begins, listing_next, noted_cells, noted_sets}
use Rattle.dp_audit.proofs.CopyLemmas.{others_left, same_but, same_values}
use Rattle.dp_audit.proofs.known.Known.changes_among.Goals as goal

pub loop-cell-init : goal.loop-cell-init
loop-cell-init c =
    let items = c.as_slice-cell-items.result.now in
    let is : items ≡ c.in_order-ordered.result = c.as_slice-cell-items.ensures in
    record {
      locals = refl;
      ascending = subst IsNonDecreasing (sym is) c.in_order-ordered.ensures.ascending;
      listing = listing_begins _ _ _ _ c.requires.size c.new-sets.ensures;
      ahead = λ cell h. ap (has cell) is ∙ sym (has_moved cell _ _ c.in_order-ordered.ensures.permutation) ∙ c.requires.among cell h;
    }

pub loop-cell-preserved : goal.loop-cell-preserved
loop-cell-preserved c =
    let i = c.loop-cell.invariant in
    let n = c.in_ok-note.ensures in
    let items = c.as_slice-cell-items.result.now in
    let there = get_or items c.loop-cell.cell-index 0 in
    let h = c.loop-cell-test.true in
    let less : c.loop-cell.cell-index < length items = omega (arith, h) in
    let least = λ (cell : ℕ) (t : changed_but c.args.self.now.locals c.loop-cell.self.cells c.args.now.now cell ≡ true). least_there items
    c.loop-cell.cell-index less i.ascending cell (i.ahead cell t) in
    let cells = noted_cells c.args.now.now there _ _ i.locals c.loop-cell.self.cells c.note.new.self.cells n.cells in
    let sets = noted_sets c.args.now.now there _ _ i.locals c.loop-cell.self.cells c.loop-cell.sets c.note.new.sets n.sets in
    record {
      locals = n.locals ∙ i.locals;
      ascending = i.ascending;
      listing = listing_next _ _ _ _ _ i.listing there least _ _ cells sets;
      ahead = λ cell t.
          let left = others_left _ _ _ _ _ i.listing there least _ _ cells sets cell t in
          behind_there items c.loop-cell.cell-index less cell left.0 (i.ahead cell left.1);
    }

pub returns-clause-sets : goal.returns-clause-sets
returns-clause-sets c =
    let items = c.as_slice-cell-items.result.now in
    let f = c.loop-cell-test.false in
    let over : drop c.loop-cell.cell-index items ≡ [] = drop_all c.loop-cell.cell-index items (omega (arith, f)) in
    listed_all _ _ _ _ _ c.loop-cell.invariant.listing (λ cell. false_from_ne_true _ (λ t. has_none cell _ over (c.loop-cell.invariant.ahead cell t)))

pub returns-clause-copy : goal.returns-clause-copy
returns-clause-copy c =
    let items = c.as_slice-cell-items.result.now in
    let f = c.loop-cell-test.false in
    let over : drop c.loop-cell.cell-index items ≡ [] = drop_all c.loop-cell.cell-index items (omega (arith, f)) in
    record {
      size = c.loop-cell.invariant.listing.size;
      same = same_but _ _ c.loop-cell.invariant.locals (same_values _ _ _ _ _ c.loop-cell.invariant.listing
          (λ cell. false_from_ne_true _ (λ t. has_none cell _ over (c.loop-cell.invariant.ahead cell t))));
    }
