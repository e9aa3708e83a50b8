-- No site of a given plan is of the stage after the last one.
use Rattle.std.proofs.Common.{subst}
use Rattle.dp_tree.specs.declared.Program.{Program}
use Rattle.dp_tree.specs.Inlined.{IsInlined}
use Rattle.dp_plan.specs.declared.Plan.{Plan}
use Rattle.dp_plan.specs.GivenPlans.{IsPlan}
use Rattle.dp_plan.specs.Written.{written_of}
use Rattle.dp_plan.proofs.PlanBack.{plan_back}
use Rattle.dp_plan.proofs.RegionFacts.{in_order}
use Rattle.dp_theorem.proofs.GivenFits.{region_within}
use Rattle.dp_lean_judge.specs.Stages.{HasStages}
use Rattle.dp_lean_judge.proofs.StageNumbers.{written_has_stages}

module _ (p : Program) (inlined : IsInlined p) (plan : Plan) (is : IsPlan p plan) where
  pub given_stages : HasStages p plan
  given_stages = subst (λ (q : Plan). HasStages p q)
      (plan_back p plan is (in_order p inlined plan (region_within p inlined plan is).0 (region_within p inlined plan is).1))
      (written_has_stages p plan.proved (written_of p plan))
