use Rattle.std.proofs.Common.{◌≡◌, ◌<◌, ℕ, length, slice_index}
use Rattle.dp_units.specs.steps.Entries.{At}
use Rattle.dp_units.specs.declared.mark.Mark.TheVariants.{Closed}
use Rattle.dp_units.proofs.leaders.leader_list.Given as goal

abbrev pub invariant-loop-mark : goal.invariant-loop-mark
invariant-loop-mark l = record {
  count : length l.leader_of.items ≡ l.mark-index;
  made : (node unit leader : ℕ) → node < l.mark-index → At l.search.marks.items node (Closed unit) → At l.search.leaders.items unit leader →
      slice_index l.leader_of.items node ≡ leader;
}
