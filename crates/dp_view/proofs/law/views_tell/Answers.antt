use Rattle.dp_theorem.proofs.Fitting.{accepted}
use Rattle.dp_view.proofs.FollowLemmas as follow
use Rattle.dp_view.proofs.LoadLemmas as loads
use Rattle.dp_view.proofs.law.views_tell.Goals as goal

pub returns-clause-tell : goal.returns-clause-tell
returns-clause-tell c = follow.views_tell (accepted c.args.p.now c.args.plan.now c.requires)

pub returns-clause-follow : goal.returns-clause-follow
returns-clause-follow c = loads.views_follow (accepted c.args.p.now c.args.plan.now c.requires)
