use Rattle.std.proofs.Common.{◌≡◌, ◌-◌, List}
use Rattle.dp_tree.specs.Step.{Event}
use Rattle.dp_view.specs.Viewed.{after_all}
use Rattle.dp_view.specs.Heard.{Comes}
use Rattle.dp_auditor.proofs.watching.follow.Given as goal

abbrev pub invariant-loop-out : goal.invariant-loop-out
invariant-loop-out l = record {
  so : (events later : List Event) → Comes l.fn.machine l.until l.fn.views.source events later →
      (left : List Event) × Comes l.machine l.until l.views.source left later × (after_all left l.views ≡ after_all events l.fn.views);
}

abbrev pub decreases-loop-out : goal.decreases-loop-out
decreases-loop-out l = l.until - l.machine.steps
