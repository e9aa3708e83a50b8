use Rattle.std.proofs.Common.{◌≡◌, ◌<◌, ◌++◌, List, ℤ}
use Rattle.dp_view.specs.Heard.{Hears}
use Rattle.dp_epoch.proofs.RemadeLemmas.{SoFar}
use Rattle.dp_epoch.proofs.watching.watch_steps.Given as goal

abbrev pub invariant-steps : goal.invariant-steps
invariant-steps l = record {
  so_far : (printed : List ℤ) × SoFar l.fn.committed l.committed printed × (l.waiting ≡ l.fn.waiting ++ printed);
  heard : Hears l.fn.committed.machine l.committed.machine l.fn.views l.views;
  some : 0 < l.left;
}

abbrev pub decreases-steps : goal.decreases-steps
decreases-steps l = l.left
