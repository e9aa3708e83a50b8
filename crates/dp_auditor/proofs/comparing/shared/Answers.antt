use Rattle.std.proofs.Common.{◌≡◌, ◌≤◌, ◌∙◌, arith, length}
use Rattle.dp_auditor.proofs.LineLemmas.{shared_over}
use Rattle.dp_auditor.proofs.comparing.shared.Goals as goal

pub returns : goal.returns
returns c =
    let most = c.min-most.ensures in
    let at = c.loop-place.auto.place-end in
    let end = c.loop-place-test.false in
    let low : c.loop-place.place ≤ length c.args.one.now = omega (arith, most, at) in
    let high : c.loop-place.place ≤ length c.args.other.now = omega (arith, most, at) in
    let same : c.min-most.result ≡ c.loop-place.place = omega (arith, at, end) in
    same ∙ shared_over c.args.one.now c.args.other.now c.loop-place.place c.loop-place.invariant low high (λ a b. omega (arith, most, a, b, same))
