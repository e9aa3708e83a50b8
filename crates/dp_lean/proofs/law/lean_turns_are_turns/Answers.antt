use Rattle.dp_lean.proofs.Placed.{lean_turns}
use Rattle.dp_lean.proofs.law.lean_turns_are_turns.Goals as goal

pub returns : goal.returns
returns c = lean_turns c.args.p.now c.args.plan.now c.requires.inlined c.requires.fits
