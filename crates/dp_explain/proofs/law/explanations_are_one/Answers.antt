use Rattle.dp_explain.proofs.ExplainedOnce.{explained_once}
use Rattle.dp_explain.proofs.law.explanations_are_one.Goals as goal

pub returns : goal.returns
returns c = explained_once c.args.p.now
