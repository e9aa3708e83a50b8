use Rattle.dp_crew.proofs.FollowRuns.{unfollowed}
use Rattle.dp_crew.proofs.following.follow_ahead.Goals as goal

pub returns-in-None : goal.returns-in-None
returns-in-None g c = record { followed = unfollowed _ _ _ c.args.ledger _ _ _ c.requires.epoch.0 c.requires.epoch.1 c.requires.room }
