use Rattle.std.proofs.Common.{ℕ, List, refl, ap, ◌∙◌, subst}
use Rattle.std.specs.Option.{option_copied}
use Rattle.dp_plan.specs.declared.Plan.{Plan}
use Rattle.dp_edge.specs.Sink.{appended}
use Rattle.dp_edge.specs.Writing.{WritesFront}
use Rattle.dp_drive.specs.steps.Listed.{Made, PlanningText}
use Rattle.dp_drive.proofs.Stopping.{stopped_within}
use Rattle.dp_drive.proofs.planning.list_least.Goals as goal

pub returns-in_err-write-clause-lists : goal.returns-in_err-write-clause-lists
returns-in_err-write-clause-lists g c =
    Made c.in_ok-plans.plans c.in_ok-written.written c.in_ok-plans.ensures.made
    (subst (λ (plans : List Plan). PlanningText c.args.text c.args.program.now (option_copied c.args.profile) c.args.options.rate plans c.in_ok-written.written)
    c.as_slice.ensures c.in_ok-written.ensures)
    (stopped_within 0 c.in_ok-written.written (g.K.Sink.written c.args.sink.now) (g.K.Sink.written c.write.new.sink) c.from_residual-in_err-write.result
    c.from_residual-in_err-write.ensures.0
    (subst (λ (bytes : List ℕ). WritesFront bytes (g.K.Sink.written c.args.sink.now) (g.K.Sink.written c.write.new.sink)) c.as_slice-2.ensures
    c.in_err-write.ensures.err))

pub returns-clause-lists : goal.returns-clause-lists
returns-clause-lists g c =
    Made c.in_ok-plans.plans c.in_ok-written.written c.in_ok-plans.ensures.made
    (subst (λ (plans : List Plan). PlanningText c.args.text c.args.program.now (option_copied c.args.profile) c.args.options.rate plans c.in_ok-written.written)
    c.as_slice.ensures c.in_ok-written.ensures)
    (refl, c.in_ok-write.ensures.ok ∙ ap (λ (bytes : List ℕ). appended bytes (g.K.Sink.written c.args.sink.now)) c.as_slice-2.ensures)
