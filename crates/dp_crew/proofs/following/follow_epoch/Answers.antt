use Rattle.std.proofs.Common.{◌∙◌, ap}
use Rattle.dp_plan.specs.declared.Plan.{Plan}
use Rattle.dp_crew.proofs.EpochRuns.{unbegun}
use Rattle.dp_crew.proofs.FollowRuns.{follows_here, followed_here, other_sound, unfollowed}
use Rattle.dp_crew.proofs.following.follow_epoch.Goals as goal

pub pipeline_here-requires-clause-sound : goal.pipeline_here-requires-clause-sound
pipeline_here-requires-clause-sound g c = other_sound _ _ c.requires.other c.is_planned.ensures _ c.requires.epoch.0 _ _ c.requires.epoch.1

pub follow_verdicts-followed-requires-clause-epoch : goal.follow_verdicts-followed-requires-clause-epoch
follow_verdicts-followed-requires-clause-epoch g c κs within =
    let first = c.requires.epoch.0 in (
      c.args.work.region.now.plan,
      first,
      follows_here _ _ c.requires.other c.is_planned.ensures c.args.work.input.now c.args.ledger _ (c.polling-polled.ensures ∙ c.in_ok-units.ensures.verdicts)
          first c.requires.epoch.1,
      ap (λ (p : Plan). p.words) c.plan.ensures,
    )

pub returns-then-not-follows : goal.returns-then-not-follows
returns-then-not-follows g c = record { followed = unfollowed _ _ _ c.args.ledger _ _ _ c.requires.epoch.0 c.requires.epoch.1 c.requires.room }

pub returns-in_err-setter : goal.returns-in_err-setter
returns-in_err-setter g c = record { followed = unbegun _ _ _ _ _ c.from_residual.result _ _ _ c.from_residual.ensures.1 }

pub returns-in_err-units : goal.returns-in_err-units
returns-in_err-units g c = record { followed = unbegun _ _ _ _ _ c.from_residual-in_err-units.result _ _ _ c.from_residual-in_err-units.ensures.1 }

pub returns : goal.returns
returns g c = record {
  followed = followed_here _ _ c.requires.other c.is_planned.ensures c.args.work.input.now c.args.ledger _ (c.polling-polled.ensures
      ∙ c.in_ok-units.ensures.verdicts) c.follow_verdicts-followed.result _ _ _ _ _ _ (c.follow_verdicts-followed.ensures.followed c.args.work.region.now.plan
      (ap (λ (p : Plan). p.words) c.plan.ensures));
}
