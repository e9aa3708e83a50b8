use Rattle.dp_lean_code.proofs.LeanCodes.{code_is_right}
use Rattle.dp_lean_code.proofs.law.lean_code_is_right.Goals as goal

pub returns : goal.returns
returns c = code_is_right c.args.p.now c.args.plan.now c.requires.inlined c.requires.fits
