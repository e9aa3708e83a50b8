use Rattle.std.proofs.Common.{◌≡◌, ◌+◌, ◌++◌, drop}
use Rattle.dp_plan_text.specs.WrittenText.{stage_texts}
use Rattle.dp_plan_text.proofs.write.put_stages.Given as goal

abbrev pub invariant-loop-place : goal.invariant-loop-place
invariant-loop-place l =
    l.out ++ stage_texts l.p l.plan l.sites (l.place + 1) (drop l.place l.plan.stages) ≡ l.initial.out ++ stage_texts l.p l.plan l.sites 1 l.plan.stages
