use Rattle.std.proofs.Common.{◌≡◌, refl, ◌∙◌, ap, ◌+◌, List, ℤ}
use Rattle.dp_edge.specs.Sink.{appended}
use Rattle.dp_plan.specs.declared.Plan.{Plan}
use Rattle.dp_run.specs.Prepared.{PlannedProgram}
use Rattle.dp_run.specs.RunText.{committed_in_all, source_run, trace_text}
use Rattle.dp_refusal.specs.Refusal.{exit_status}
use Rattle.dp_drive.proofs.Stopping.{stopped_before}
use Rattle.dp_drive.proofs.MadeLemmas.{stopped_counts}
use Rattle.dp_drive.proofs.running.run_to_end.Goals as goal

pub returns-in_err-others-clause-runs : goal.returns-in_err-others-clause-runs
returns-in_err-others-clause-runs g c =
    record { finishes = stopped_before _ _ _ _ _ c.from_residual.ensures.0 refl; counted = stopped_counts _ _ c.from_residual.ensures.0 }

pub returns-in_err-prepared-clause-runs : goal.returns-in_err-prepared-clause-runs
returns-in_err-prepared-clause-runs g c =
    record {
      finishes = stopped_before _ _ _ _ _ c.from_residual-in_err-prepared.ensures.0 refl;
      counted = stopped_counts _ _ c.from_residual-in_err-prepared.ensures.0;
    }

pub returns-clause-runs : goal.returns-clause-runs
returns-clause-runs g c =
    let plans : c.as_slice-plans.result.now ≡ c.args.plans.now = c.as_slice-plans.ensures in
    let input : c.as_slice.result.now ≡ c.args.input.now = c.as_slice.ensures in
    let made : c.in_ok-prepared.prepared ≡ record { program = c.args.program.now; plans = c.args.plans.now } = c.in_ok-prepared.ensures
    ∙ ap (λ (ps : List Plan). record { program = c.args.program.now; plans = ps }) plans in
    let ok = c.in_ok-end.ensures.ok in
    record {
      finishes = (
        c.end_status.ensures ∙ ap exit_status (ok.0 ∙ ap (λ (x : PlannedProgram). (source_run x.program c.as_slice.result.now c.args.options.fuel).end) made
            ∙ ap (λ (zs : List ℤ). (source_run c.args.program.now zs c.args.options.fuel).end) input),
        ok.1 ∙ ap (λ (x : PlannedProgram). appended (trace_text x.program x.plans (source_run x.program c.as_slice.result.now c.args.options.fuel)
            c.args.options.why) (g.K.Sink.written c.args.sink.now)) made
            ∙ ap (λ (zs : List ℤ). appended (trace_text c.args.program.now c.args.plans.now (source_run c.args.program.now zs c.args.options.fuel)
            c.args.options.why) (g.K.Sink.written c.args.sink.now)) input,
      );
      counted =
          c.in_ok-end.ensures.tally
          ∙ ap (λ (x : PlannedProgram). c.args.tally.now + committed_in_all x.program x.plans (source_run x.program c.as_slice.result.now c.args.options.fuel))
          made
          ∙ ap (λ (zs : List ℤ). c.args.tally.now + committed_in_all c.args.program.now c.args.plans.now
          (source_run c.args.program.now zs c.args.options.fuel)) input;
    }
