use Rattle.std.proofs.Common.{◌≡◌, ◌++◌, ℕ, drop, map}
use Rattle.dp_run_plan.proofs.making.first_stages.Given as goal

abbrev pub invariant-loop-stage : goal.invariant-loop-stage
invariant-loop-stage l = l.made ++ map (λ (_ : ℕ). 1) (drop l._stage-index l.stages) ≡ map (λ (_ : ℕ). 1) l.stages
