-- A plan that is given for an inlined program is one for one of its regions.
use Rattle.std.proofs.Common.{◌≡◌, subst, arith, ℕ, zero, suc, List, [], ◌∷◌, Some, slice_get}
use Rattle.dp_tree.specs.declared.Program.{Program}
use Rattle.dp_tree.specs.Inlined.{IsInlined}
use Rattle.dp_plan.specs.declared.Plan.{Plan}
use Rattle.dp_plan.specs.Each.{Each}
use Rattle.dp_plan.specs.GivenPlans.{IsPlan}
use Rattle.dp_theorem.proofs.GivenFits.{region_within}
use Rattle.dp_prepared.specs.Planned.{IsPlanned}

pub planned : (p : Program) → IsInlined p → (plan : Plan) → IsPlan p plan → IsPlanned p plan
planned p inlined plan is =
    let within = region_within p inlined plan is in
    record { inlined = inlined; is_plan = is; counted = within.0; known = let less = within.1 in omega (arith, less) }

-- each of the plans is
pub planned_at : (p : Program) → IsInlined p → (plans : List Plan) (i : ℕ) (plan : Plan) → Each (IsPlan p) plans →
    slice_get plans i ≡ Some plan → IsPlanned p plan
planned_at p inlined [] i plan each at = absurd (cc at)
planned_at p inlined (x ∷ plans) zero plan each at = planned p inlined plan (subst (IsPlan p) (cc at) each.0)
planned_at p inlined (x ∷ plans) (suc i) plan each at = planned_at p inlined plans i plan each.1 at
