use Rattle.std.proofs.Common.{◌≡◌, ◌<◌, ◌∙◌, ◌+◌, ℕ, List, length, sym, subst, ap, arith, slice_index, slice_index_or}
use Rattle.std.proofs.lemmas.List.{length_push}
use Rattle.dp_units.specs.steps.Entries.{At}
use Rattle.dp_units.specs.declared.mark.Mark.{Mark}
use Rattle.dp_units.specs.declared.mark.Mark.TheVariants.{Unseen, Closed}
use Rattle.dp_units.proofs.AtLemmas.{at_within}
use Rattle.dp_units.proofs.LoopLemmas.{item_at}
use Rattle.dp_units.proofs.LeaderLemmas.{leader_more}
use Rattle.dp_units.proofs.leaders.leader_list.Goals as goal

pub leader_by-leader-requires : goal.leader_by-leader-requires
leader_by-leader-requires c =
    let marks : List Mark = c.args.search.now.marks.items in
    let i : ℕ = c.loop-mark.mark-index in
    let h : i < length c.as_slice-mark-items.result.now = omega arith in
    let at : At marks i (slice_index_or c.as_slice-mark-items.result.now i Unseen) =
    subst (λ (ms : List Mark). At ms i (slice_index_or c.as_slice-mark-items.result.now i Unseen)) c.as_slice-mark-items.ensures.value
    (item_at c.as_slice-mark-items.result.now i Unseen h) in
    let (unit, is, low) = c.requires i (slice_index_or c.as_slice-mark-items.result.now i Unseen) at in
    (unit, is, subst (λ (ls : List ℕ). unit < length ls) (sym c.as_slice.ensures.value) low)

pub loop-mark-preserved : goal.loop-mark-preserved
loop-mark-preserved c =
    let marks : List Mark = c.args.search.now.marks.items in
    let made : List ℕ = c.loop-mark.leader_of.items in
    let i : ℕ = c.loop-mark.mark-index in
    let leader : ℕ = c.leader_by-leader.result in
    let h : i < length c.as_slice-mark-items.result.now = omega arith in
    let mark : Mark = slice_index_or c.as_slice-mark-items.result.now i Unseen in
    let at : At marks i mark = subst (λ (ms : List Mark). At ms i mark) c.as_slice-mark-items.ensures.value
    (item_at c.as_slice-mark-items.result.now i Unseen h) in
    let longer : length c.push.new.self.items ≡ length made + 1 = ap (λ (xs : List ℕ). length xs) c.in_ok-push.ensures.items ∙ length_push made leader in
    let before = c.loop-mark.invariant in
    record {
      count = (let e : length made ≡ i = before.count in omega (arith, longer, e));
      made = λ v unit l low closed there.
          ap (λ (xs : List ℕ). slice_index xs v) c.in_ok-push.ensures.items
          ∙ leader_more marks _ made i leader mark before.count at (λ u is. subst (λ (ls : List ℕ). At ls u leader) c.as_slice.ensures.value
          (c.leader_by-leader.ensures u is)) before.made v unit l low closed there;
    }

pub returns-clause-made : goal.returns-clause-made
returns-clause-made c = λ v unit l closed there.
    let marks : List Mark = c.args.search.now.marks.items in
    let h : v < length marks = at_within marks v (Closed unit) closed in
    let long : length c.as_slice-mark-items.result.now ≡ length marks = ap (λ (ms : List Mark). length ms) c.as_slice-mark-items.ensures.value in
    let low : v < c.loop-mark.mark-index = omega (arith, h, long) in
    c.loop-mark.invariant.made v unit l low closed there
