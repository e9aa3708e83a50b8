use Rattle.std.proofs.Common.{◌≡◌, ◌+◌, drop}
use Rattle.dp_check.specs.Place.{place_after_all}
use Rattle.dp_check.specs.Answer.{onto, block_answer}
use Rattle.dp_check.proofs.Weight.{weight, weight_all}
use Rattle.dp_check.proofs.statement.+statements.Given as goal

abbrev pub invariant-statements-loop-s : goal.invariant-statements-loop-s
invariant-statements-loop-s l = (onto l.fn.done (block_answer l.fn.place l.all) ≡ onto l.done (block_answer l.place (drop l.s-index l.all)))
    × (place_after_all l.fn.place l.all ≡ place_after_all l.place (drop l.s-index l.all))

abbrev pub decreases-statement : goal.decreases-statement
decreases-statement l = weight l.s.now

abbrev pub decreases-conditional : goal.decreases-conditional
decreases-conditional l = 2 + (weight_all l.then_part.now + weight_all l.else_part.now)

abbrev pub decreases-repeated : goal.decreases-repeated
decreases-repeated l = 2 + weight_all l.body.now

abbrev pub decreases-looped : goal.decreases-looped
decreases-looped l = 3 + (weight_all l.step.now + weight_all l.body.now)

abbrev pub decreases-counted : goal.decreases-counted
decreases-counted l = 4 + (weight_all l.first.now + (weight_all l.step.now + weight_all l.body.now))

abbrev pub decreases-statements : goal.decreases-statements
decreases-statements l = weight_all l.all.now

abbrev pub decreases-block : goal.decreases-block
decreases-block l = 1 + weight_all l.all.now

abbrev pub decreases-step_of : goal.decreases-step_of
decreases-step_of l = 2 + weight_all l.step.now
