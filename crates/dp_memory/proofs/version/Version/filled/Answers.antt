use Rattle.std.proofs.Common.{◌≡◌, ℕ, ℤ, ◌+◌, ◌-◌, List, sym, ap, ◌∙◌, to_z, of_z, w64, arith}
use Rattle.std.proofs.Math.ListN.{set}
use Rattle.dp_memory.specs.Pieces.{filled}
use Rattle.dp_memory.proofs.Filled.{filled_next}
use Rattle.dp_memory.proofs.version.Version.filled.Goals as goal

pub loop-place-preserved : goal.loop-place-preserved
loop-place-preserved c =
    let first = c.args.first.0 in
    let place = c.loop-place.place in
    let value = to_z w64 (of_z w64 c.args.value) in
    let lower = c.loop-place.auto.place in
    let end = c.loop-place.auto.place-end in
    let below = c.loop-place-test.true in
    let asked = c.requires in
    let spot : first + (place - first) ≡ place = omega arith in
    let next : place - first + 1 ≡ place + 1 - first = omega arith in
    c.in_ok-put.ensures.ok ∙ ap (λ (r : List ℤ). set r place value) c.loop-place.invariant
    ∙ ap (λ (k : ℕ). set (filled c.args.self first (place - first) value) k value) (sym spot)
    ∙ filled_next c.args.self first value (place - first) (omega arith)
    ∙ ap (λ (k : ℕ). filled c.args.self first k value) next
