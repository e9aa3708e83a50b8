use Rattle.dp_resume.proofs.TextGoesOn.{goes_on_in_text}
use Rattle.dp_resume.proofs.law.resumed_text_goes_on.Goals as goal

pub returns : goal.returns
returns c = goes_on_in_text c.args.p.now c.args.plans.now
