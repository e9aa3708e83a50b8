use Rattle.std.proofs.Common.{◌∙◌, ap, ℕ, ◌≤◌, length, replicate, arith}
use Rattle.dp_columns.specs.Held.{IsNone, no_events}
use Rattle.dp_columns.proofs.Places.{front_all, all_alike}
use Rattle.dp_columns.proofs.columns.clear_events.Goals as goal

pub returns : goal.returns
returns c =
    let l = c.loop-place in
    let past : length l.loads ≤ l.place = omega (arith, l.invariant.0, c.loop-place-test.false, c.len-place-end.ensures, l.auto.place-end) in
    all_alike no_events l.loads (front_all IsNone l.place l.loads past l.invariant.1) ∙ ap (λ (n : ℕ). replicate n no_events) l.invariant.0
