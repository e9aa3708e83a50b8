use Rattle.dp_lean.proofs.LeanJudges.{lean_judges}
use Rattle.dp_lean.proofs.law.lean_judges_are_judges.Goals as goal

pub returns : goal.returns
returns c = lean_judges c.args.p.now c.args.plan.now c.requires.inlined c.requires.fits
