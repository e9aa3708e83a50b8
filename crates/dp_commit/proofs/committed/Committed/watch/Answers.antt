-- An iteration that ended made a step, so the count fits.
use Rattle.std.proofs.Common.{◌≡◌, ◌+◌, ◌∙◌, sym, ap, subst, ℕ, false, arith}
use Rattle.dp_meaning.specs.declared.ends.Part.TheVariants.{Region}
use Rattle.dp_meaning.specs.MachineState.{next_part}
use Rattle.dp_commit.specs.CommittedState.{ClosesOnce, CommittedState, HoldsCommitted, IsOpen}
use Rattle.dp_commit.proofs.Applied.{recovers_holds}
use Rattle.dp_commit.proofs.CountLemmas.{bound, not_spoiled}
use Rattle.dp_commit.proofs.committed.Committed.watch.Goals as goal

pub overflow_add-self : goal.overflow_add-self
overflow_add-self c =
    let named : next_part c.self.inside.machine ≡ Region c.args.self.now.region = ap (λ (s : CommittedState). next_part s.machine) c.self.view_is
    ∙ c.requires.next in
    let sound : c.self.inside.machine.spoiled ≡ false = not_spoiled c.self.inside.machine.spoiled c.watch_iteration.result (c.in_ok-end.end, c.in_ok-end.seen)
    c.in_ok-end.was (λ h. (c.watch_iteration.ensures.spoiled h).0) in
    let low = bound _ _ c.self.inside.count _ _ _ _ c.in_ok-end.end (c.in_ok-end.ensures.runs c.args.self.now.region named) (c.self.invariant sound) in
    let more = c.committed_by.ensures c.self.inside.count in
    omega (arith, low, more, c.steps-made.ensures.value, c.steps-made.type_inv)

pub invariant_of-self-2 : goal.invariant_of-self-2
invariant_of-self-2 c still =
    let named : next_part c.self.inside.machine ≡ Region c.args.self.now.region = ap (λ (s : CommittedState). next_part s.machine) c.self.view_is
    ∙ c.requires.next in
    let sound : c.self.inside.machine.spoiled ≡ false = not_spoiled c.self.inside.machine.spoiled c.watch_iteration.result (c.in_ok-end.end, c.in_ok-end.seen)
    c.in_ok-end.was (λ h. (c.watch_iteration.ensures.spoiled h).0) in
    let low = bound _ _ c.self.inside.count _ _ _ _ c.in_ok-end.end (c.in_ok-end.ensures.runs c.args.self.now.region named) (c.self.invariant sound) in
    let more = c.committed_by.ensures c.self.inside.count in
    omega (arith, low, more)
