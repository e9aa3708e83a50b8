use Rattle.dp_net.proofs.Assembled.{items_follow, texts_nest}
use Rattle.dp_net.proofs.law.net_items_follow_the_text.Goals as goal

pub returns-clause-follow : goal.returns-clause-follow
returns-clause-follow c = items_follow c.args.p.now c.args.plan.now c.requires.inlined c.requires.fits

pub returns-clause-nest : goal.returns-clause-nest
returns-clause-nest c = texts_nest c.args.p.now c.args.plan.now c.requires.fits
