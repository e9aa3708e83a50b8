use Rattle.std.proofs.Common.{◌∙◌, ap, subst, sym}
use Rattle.dp_semantics.specs.EpochCauses.{IsSound}
use Rattle.dp_prepared.specs.Planned.{Prepared}
use Rattle.dp_epoch.specs.InEpoch.{key_here}
use Rattle.dp_epoch.proofs.EpochBegins.{sound_here}
use Rattle.dp_crew.proofs.Answering.{err_ok}
use Rattle.dp_crew.proofs.EpochRuns.{begins_here, coming_here, ran_here, unbegun}
use Rattle.dp_crew.proofs.begun.run_own_epoch.Goals as goal

pub pipeline_here-requires-clause-sound : goal.pipeline_here-requires-clause-sound
pipeline_here-requires-clause-sound g c =
    subst (λ (r : Prepared). IsSound (key_here r.program r.plan c.args.work.input.now c.args.ledger.committed)) (sym c.region.ensures)
    (sound_here _ _ _ c.requires.epoch.0 _ _ c.requires.epoch.1)

pub run_epoch-end-requires-clause-epoch : goal.run_epoch-end-requires-clause-epoch
run_epoch-end-requires-clause-epoch g c κs within =
    let first = c.requires.epoch.0 in (
      first,
      begins_here c.args.work.region.now.program c.args.work.region.now.plan c.args.work.input.now c.args.ledger _
          (c.polling-polled.ensures ∙ c.in_ok-units.ensures.verdicts ∙ ap (coming_here c.args.work.input.now c.args.ledger.committed) c.region.ensures)
          first c.requires.epoch.1,
    )

pub returns-in_err-setter : goal.returns-in_err-setter
returns-in_err-setter g c =
    record { ran = unbegun _ _ _ _ _ c.from_residual.result _ _ _ c.from_residual.ensures.1; falls = err_ok c.from_residual.result _ c.from_residual.ensures.0 }

pub returns-in_err-units : goal.returns-in_err-units
returns-in_err-units g c = record {
  ran = unbegun _ _ _ _ _ c.from_residual-in_err-units.result _ _ _ c.from_residual-in_err-units.ensures.1;
  falls = err_ok c.from_residual-in_err-units.result _ c.from_residual-in_err-units.ensures.0;
}

pub returns : goal.returns
returns g c = record {
  ran = ran_here c.args.work.region.now.program c.args.work.region.now.plan c.args.work.input.now c.args.ledger _
      (c.polling-polled.ensures ∙ c.in_ok-units.ensures.verdicts ∙ ap (coming_here c.args.work.input.now c.args.ledger.committed) c.region.ensures)
      c.run_epoch-end.result _ _ _ _ _ _ c.run_epoch-end.ensures.ran;
  falls = c.run_epoch-end.ensures.falls;
}
