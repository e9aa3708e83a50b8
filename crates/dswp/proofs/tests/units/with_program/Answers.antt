use Rattle.std.proofs.Common.{◌∙◌, sym, ap, List, slice_get, Ok}
use Rattle.dp_plan.specs.declared.Plan.{Plan}
use Rattle.dp_plan.specs.GivenPlans.{IsPlan, ArePlans}
use Rattle.dp_plan.proofs.EachLemmas.{each_at}
use Rattle.dp_prepared.proofs.Plans.{planned}
use Rattle.dp_load.proofs.TextsLemmas.{given}
use Rattle.dp_load.proofs.accepted.Given.{read_plans_fit}
use Rattle.dswp.proofs.tests.units.with_program.Goals as goal

pub new-requires : goal.new-requires
new-requires g c =
    let plans_are : ArePlans c.args.program.now c.in-Text.plans = given _ _ _ (c.in_ok-plans.was ∙ ap Ok c.in-Text.is)
    (read_plans_fit _ _ _ c.requires.inlined _ c.load_plans.ensures.loads) in
    record {
      planned = planned c.args.program.now c.requires.inlined _ (each_at (IsPlan c.args.program.now) _ plans_are.each 0 _
          (ap (λ (xs : List Plan). slice_get xs 0) (sym c.as_slice.ensures) ∙ sym c.in-Some.ensures.value));
    }
