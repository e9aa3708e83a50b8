use Rattle.std.proofs.Common.{◌≡◌, ◌∙◌, ap, subst, List, ℤ}
use Rattle.dp_edge.specs.Sink.{appended}
use Rattle.dp_edge.specs.Writing.{WritesFront}
use Rattle.dp_plan.specs.declared.Plan.{Plan}
use Rattle.dp_log.specs.LogText.{log_bytes}
use Rattle.dp_run.specs.Prepared.{PlannedProgram}
use Rattle.dp_run.specs.RunText.{source_run}
use Rattle.dp_refusal.specs.Refusal.{exit_status}
use Rattle.dp_drive.proofs.Stopping.{stopped_within}
use Rattle.dp_drive.proofs.logging.write_log.Goals as goal

pub returns-in_err-end-clause-finishes : goal.returns-in_err-end-clause-finishes
returns-in_err-end-clause-finishes g c =
    let made : c.in_ok-prepared.prepared ≡ record { program = c.args.texts.program.now; plans = c.args.texts.plans.now } =
    c.in_ok-prepared.ensures ∙ ap (λ (ps : List Plan). record { program = c.args.texts.program.now; plans = ps }) c.as_slice-plans.ensures in
    stopped_within _ _ _ _ _ c.from_residual-in_err-end.ensures.0
    (subst (λ (zs : List ℤ). WritesFront (log_bytes c.args.texts.program.now c.args.texts.plans.now
    (source_run c.args.texts.program.now zs c.args.texts.run.fuel)) (g.K.Sink.written c.args.sink.now) (g.K.Sink.written c.log_program.new.sink))
    c.as_slice-input.ensures
    (subst (λ (x : PlannedProgram). WritesFront (log_bytes x.program x.plans (source_run x.program c.as_slice-input.result.now c.args.texts.run.fuel))
    (g.K.Sink.written c.args.sink.now) (g.K.Sink.written c.log_program.new.sink)) made
    c.in_err-end.ensures.err))

pub returns-clause-finishes : goal.returns-clause-finishes
returns-clause-finishes g c =
    let input : c.as_slice-input.result.now ≡ c.args.texts.input.now = c.as_slice-input.ensures in
    let made : c.in_ok-prepared.prepared ≡ record { program = c.args.texts.program.now; plans = c.args.texts.plans.now } =
    c.in_ok-prepared.ensures ∙ ap (λ (ps : List Plan). record { program = c.args.texts.program.now; plans = ps }) c.as_slice-plans.ensures in
    let ok = c.in_ok-end.ensures.ok in (
      c.end_status.ensures ∙ ap exit_status (ok.0 ∙ ap (λ (x : PlannedProgram). (source_run x.program c.as_slice-input.result.now c.args.texts.run.fuel).end)
          made ∙ ap (λ (zs : List ℤ). (source_run c.args.texts.program.now zs c.args.texts.run.fuel).end) input),
      ok.1 ∙ ap (λ (x : PlannedProgram). appended (log_bytes x.program x.plans (source_run x.program c.as_slice-input.result.now c.args.texts.run.fuel))
          (g.K.Sink.written c.args.sink.now)) made
          ∙ ap (λ (zs : List ℤ). appended (log_bytes c.args.texts.program.now c.args.texts.plans.now
          (source_run c.args.texts.program.now zs c.args.texts.run.fuel)) (g.K.Sink.written c.args.sink.now)) input,
    )
