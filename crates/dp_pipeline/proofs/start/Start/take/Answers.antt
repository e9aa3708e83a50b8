use Rattle.std.proofs.Common.{arith, ◌≡◌, ◌≤◌, ℕ, refl, ◌∙◌}
use Rattle.dp_pipeline.specs.Sizes.{size}
use Rattle.dp_pipeline.proofs.Growth.{size_is}
use Rattle.dp_pipeline.proofs.Supplied.{starts_batch}
use Rattle.dp_pipeline.proofs.start.Start.take.Goals as goal

pub returns-in-Some-clause-took : goal.returns-in-Some-clause-took
returns-in-Some-clause-took g c = λ key s n at.
    let x = c.args.self.now in
    let many : ℕ = c.next_size-size.result in
    let full : many ≡ size key n = c.next_size-size.ensures.size ∙ size_is key x.first x.next x.fuel x.cap n at.first at.next at.fuel at.cap in
    let test = c.if-self.false in
    starts_batch x _ _ many c.in-Some.ensures.fresh c.batch.ensures.stays (omega (arith, test)) refl refl refl refl key s n at full
