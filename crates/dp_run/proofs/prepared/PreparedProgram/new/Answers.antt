use Rattle.std.proofs.Common.{sym, subst, List}
use Rattle.dp_plan.specs.declared.Plan.{Plan}
use Rattle.dp_run.specs.Given.{AreGiven}
use Rattle.dp_run.proofs.PlansIn.{of_program, plans_are, shown_as}
use Rattle.dp_run.proofs.prepared.PreparedProgram.new.Goals as goal

pub invariant_of-result : goal.invariant_of-result
invariant_of-result c =
    let p = c.args.program.now in
    let plans = c.args.plans.now in
    let regions = c.in_ok-regions.regions in (
      subst (λ (xs : List Plan). AreGiven p xs) (sym (plans_are p plans regions c.in_ok-regions.ensures)) c.requires.given,
      of_program p plans regions c.in_ok-regions.ensures,
    )

pub returns : goal.returns
returns c = shown_as c.args.program.now _ c.args.plans.now (plans_are c.args.program.now c.args.plans.now c.in_ok-regions.regions c.in_ok-regions.ensures)
